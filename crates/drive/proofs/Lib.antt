-- Applied: what a call comes to on a sound drive and on an unsound one.
mod Applied
