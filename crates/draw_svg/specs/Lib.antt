pub mod Paths
pub mod Svg
