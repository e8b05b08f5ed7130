pub mod Parts
pub mod Verdicts
pub mod RoundTrip
pub mod Permitted
pub mod Laws
pub mod Facts
