mod Joins
mod Behind
mod NameSteps
