pub mod Files
pub mod Growth
pub mod Memory
pub mod Real
pub mod Refusal
pub mod Sink
