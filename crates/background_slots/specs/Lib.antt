-- The slots of lent memory in which a background's stills lie, definitions only.
pub mod Slot
