pub mod NoticeLists
pub mod StepsRepresent
pub mod Laying
