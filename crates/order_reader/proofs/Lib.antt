pub mod OrderPass
