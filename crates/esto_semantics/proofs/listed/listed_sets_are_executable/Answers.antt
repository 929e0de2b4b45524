use Rattle.esto_semantics.proofs.AnsweringLemmas.{listed_are_executable, listed_are_of_parts, answering_rises, answering_is_told}
use Rattle.esto_semantics.proofs.listed.listed_sets_are_executable.Goals as goal

pub returns : goal.returns
returns c = record { executable = listed_are_executable; parts = listed_are_of_parts; rises = answering_rises; told = answering_is_told }
