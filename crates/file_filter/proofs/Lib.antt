pub mod FilePromise
pub mod Behind
pub mod Alike
