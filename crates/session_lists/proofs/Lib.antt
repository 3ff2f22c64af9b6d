mod Legs
