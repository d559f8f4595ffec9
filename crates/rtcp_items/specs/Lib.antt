pub mod SdesTypes
