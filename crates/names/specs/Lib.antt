-- Which names a document uses.

pub mod Used
