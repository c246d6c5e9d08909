mod RowsSweeping
