-- The laws of the labelling program.
pub mod LabelledRooms
