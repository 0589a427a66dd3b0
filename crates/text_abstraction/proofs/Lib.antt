pub mod PlantTexts
