pub mod MovementPromise
