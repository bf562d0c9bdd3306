-- What an array's `from_fn` made (Made), the 33-point table (Table), and one outcome each (Unique).
pub mod Made
pub mod Table
pub mod Unique
