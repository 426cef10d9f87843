pub mod Wishes
