pub mod Tables
pub mod Printed
pub mod Lengths
pub mod Written
