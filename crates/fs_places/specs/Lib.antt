pub mod TreePlaces
