pub mod RationalPoint
