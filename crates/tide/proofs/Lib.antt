mod SheetLemmas
