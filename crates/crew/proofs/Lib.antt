mod Crossing
