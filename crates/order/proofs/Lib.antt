pub mod Places
pub mod Order
pub mod Ordered
pub mod Theory
pub mod Tests
pub mod Settle
pub mod Settled
pub mod Wrong
