pub mod PlanePromise
