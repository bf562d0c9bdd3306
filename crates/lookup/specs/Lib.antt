-- What a lookup means over a grid function (Lookup), in a table (Table), with the weights of 0 skipped and how many nodes are read
-- (Idle), and where the code finds its entries (Places).
pub mod Lookup
pub mod Table
pub mod Idle
pub mod Places
