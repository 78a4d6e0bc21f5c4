pub mod Hypergraphs
pub mod Tangents
pub mod SizeBound
