-- A document's row handed out into one lent buffer.
pub mod Handing
