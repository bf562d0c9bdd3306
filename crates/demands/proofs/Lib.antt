-- Demand 3 (`Demands`) from the bottom up. `Each`: what holds at each node of the cells. `Lookups`, `Lines`: a lookup over cells and a grid function.
-- `InkCells`: the cells of the inputs. `Rules`: one rule serves every ink. `Cuts`: demand 3 for any sizes. `Inputs`: which inputs a lookup
-- accepts, by what the calls leave. `Calls`: demand 3 by what they leave. `Fixed`: no fixed colour meets it. `Read`: demand 3
-- in a table that was read from a CLUT element or as plain values, `Filed`: from a table file. `Idle`: the lookup that skips weights of 0, its answers and its reads.
-- `IdleCalls`: the same by what the calls leave.
pub mod Each
pub mod Lookups
pub mod Lines
pub mod InkCells
pub mod Rules
pub mod Cuts
pub mod Demands
pub mod Inputs
pub mod Calls
pub mod Fixed
pub mod Read
pub mod Filed
pub mod Idle
pub mod IdleCalls
