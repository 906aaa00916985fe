pub mod Embeddings
pub mod Copies
