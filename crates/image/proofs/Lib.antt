-- Writing: the presets' row by its outline, the room of an image, and what writing one comes to. Reading: each way through reading one.
mod WritingSteps
mod ReadingSteps
