mod ZeroLaws
mod LoadLaws
mod SumLaws
