-- Parts: the parts of a text, how many, the first and the next. Naming: places in lists of names. Turns: one turn of each loop.
-- Forms: what the form of a line says. Decoding, RawWrites, Lines: strings, raw writes and lines by their tests. Cases: computed examples.
mod Parts
mod Naming
mod Turns
mod Forms
mod Decoding
mod RawWrites
mod Lines
mod Cases
