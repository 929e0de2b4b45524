use Rattle.std.proofs.Common.{◌↔◌, ◌<◌, ℕ, List, length, Contains, sym, subst}
use Rattle.std.specs.Result.{IfOk}
use Rattle.esto_columns.specs.Interned.{AreCodesOf}
use Rattle.esto_coded.specs.Coded.{Coded}
use Rattle.esto_coded.proofs.coded.CodedFacts.sorted_texts.Goals as goal

pub sorted_texts-requires : goal.sorted_texts-requires
sorted_texts-requires c row inside code among = subst (λ (it : Coded). code < length it.texts) (sym c.self.view_is) (c.requires row inside code among)

pub returns-clause-rows : goal.returns-clause-rows
returns-clause-rows c =
    subst (λ (it : Coded). IfOk c.sorted_texts.result (λ them. (row : List (List ℕ)) → Contains them row
    ↔ ((own : List ℕ) × Contains c.args.rows.now.rows own × AreCodesOf it.texts own row)))
    c.self.view_is c.sorted_texts.ensures.rows
