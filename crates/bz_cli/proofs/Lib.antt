pub mod Accepted
pub mod PoolOutcomes
