pub mod InstanceSets
