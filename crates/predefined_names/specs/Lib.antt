pub mod PredefinedNames
