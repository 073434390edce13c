-- Results: what the operations hand back, as 02's numbers and values.
pub mod Results
