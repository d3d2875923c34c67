pub mod Decoding
pub mod Results
