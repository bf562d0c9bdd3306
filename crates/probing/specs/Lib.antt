-- The bytes of a report (Text), and what the probe program prints (Probe).
pub mod Text
pub mod Probe
