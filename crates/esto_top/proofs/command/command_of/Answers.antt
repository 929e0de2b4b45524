use Rattle.std.proofs.Common.{◌≡◌, ◌∷◌, [], length, sym, subst, arith}
use Rattle.std.proofs.lemmas.Bool.Decides.{nat_tests}
use Rattle.esto_top.proofs.WordLemmas.{AreRead, IsCommandOf, all_read, few, many}
use Rattle.esto_top.proofs.command.command_of.Goals as goal
use Rattle.esto_top.proofs.command.command_of.Goals.{in_default-via-then-words-lt2}
use Rattle.esto_top.proofs.command.command_of.Goals.{in_default-via-else-words-lt2+else-words-lt3+else-words-lt4+else-words-lt5+else-words-lt6}

pub returns-in-len2-clause-command : goal.returns-in-len2-clause-command
returns-in-len2-clause-command c =
    let count : length c.args.words.now ≡ 2 = omega (arith, c.in-len2.len_at_least, c.in-len2.len_below) in
    let read = c.verb-item.result ∷ c.word-item.result ∷ [] in
    let are : AreRead c.args.words.now 0 read = (c.verb-item.is, (c.word-item.is, tt)) in
    subst (IsCommandOf c.command_of_one.result) (sym (all_read c.args.words.now read 0 count are)) c.command_of_one.ensures.command

pub returns-in-len3-clause-command : goal.returns-in-len3-clause-command
returns-in-len3-clause-command c =
    let count : length c.args.words.now ≡ 3 = omega (arith, c.in-len3.len_at_least, c.in-len3.len_below) in
    let read = c.verb-item-then-words-lt4.result ∷ c.first-item.result ∷ c.second-item.result ∷ [] in
    let are : AreRead c.args.words.now 0 read = (c.verb-item-then-words-lt4.is, (c.first-item.is, (c.second-item.is, tt))) in
    subst (IsCommandOf c.command_of_two.result) (sym (all_read c.args.words.now read 0 count are)) c.command_of_two.ensures.command

pub returns-in-len4-clause-command : goal.returns-in-len4-clause-command
returns-in-len4-clause-command c =
    let count : length c.args.words.now ≡ 4 = omega (arith, c.in-len4.len_at_least, c.in-len4.len_below) in
    let read = c.verb-item-then-words-lt5.result ∷ c.first-item-then-words-lt5.result ∷ c.second-item-then-words-lt5.result ∷ c.third-item.result ∷ [] in
    let are : AreRead c.args.words.now 0 read = (
      c.verb-item-then-words-lt5.is,
      (
        c.first-item-then-words-lt5.is,
        (
          c.second-item-then-words-lt5.is,
          (c.third-item.is, tt),
        ),
      ),
    ) in
    subst (IsCommandOf c.command_of_three.result) (sym (all_read c.args.words.now read 0 count are)) c.command_of_three.ensures.command

pub returns-in-len5-clause-command : goal.returns-in-len5-clause-command
returns-in-len5-clause-command c =
    let count : length c.args.words.now ≡ 5 = omega (arith, c.in-len5.len_at_least, c.in-len5.len_below) in
    let read = c.verb-item-then-words-lt6.result ∷ c.first-item-then-words-lt6.result ∷ c.second-item-then-words-lt6.result ∷
    c.third-item-then-words-lt6.result ∷ c.fourth-item.result ∷ [] in
    let are : AreRead c.args.words.now 0 read = (
      c.verb-item-then-words-lt6.is,
      (
        c.first-item-then-words-lt6.is,
        (
          c.second-item-then-words-lt6.is,
          (c.third-item-then-words-lt6.is, (c.fourth-item.is, tt)),
        ),
      ),
    ) in
    subst (IsCommandOf c.command_of_four.result) (sym (all_read c.args.words.now read 0 count are)) c.command_of_four.ensures.command

pub returns-in_default-clause-command : goal.returns-in_default-clause-command
returns-in_default-clause-command c = elim c.in_default.branch [
  | in_default-via-then-words-lt2 w ↦ few c.args.words.now (grind (arith, nat_tests))
  | in_default-via-else-words-lt2+else-words-lt3+else-words-lt4+else-words-lt5+else-words-lt6 w ↦ many c.args.words.now (grind (arith, nat_tests))
]
