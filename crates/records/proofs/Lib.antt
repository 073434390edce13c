-- InputWords: the word of some inputs. Cases: computed examples.
mod InputWords
mod Cases
