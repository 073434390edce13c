-- Records: the record of a drive, as the form of scripts writes it.
pub mod Records
