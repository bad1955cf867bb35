pub mod Links
pub mod Trips
pub mod Trails
pub mod Gathered
pub mod Held
pub mod Readable
pub mod Retrace
pub mod Passage
