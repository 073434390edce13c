-- Graph: where a cell leads, and what can be reached. Search: what a search adds to a map. MapCases: worked maps.
pub mod Graph
pub mod Search
pub mod MapCases
