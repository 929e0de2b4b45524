-- What `run` answers to a union is exact.
use Rattle.std.proofs.Common.{◌≡◌, ◌↔◌, ℕ, List, [], ◌∷◌, map, slice_get, filter, Contains, Option, Some, None, refl, sym, ap, subst, ◌∙◌}
use Rattle.std.specs.List.{AllZip}
use Rattle.std.specs.Prelude.{MatchOption}
use Rattle.std.proofs.lemmas.Option.{none-some, same_Some}
use Rattle.esto_mapping.specs.declared.catalogue.Catalogue.{Catalogue}
use Rattle.esto_chase_laws.specs.declared.clash.Clash.{Clash}
use Rattle.esto_constraint.specs.Constraints.{rules_of}
use Rattle.esto_query.specs.Same.{AreSameQueries}
use Rattle.esto_status.specs.Answers.{IsCaused}
use Rattle.esto_status.specs.Calm.{Leads}
use Rattle.esto_run.specs.Fragments.{opens_fragments, IsReadableFragment}
use Rattle.esto_status.specs.Line.{line_of}
use Rattle.esto_run.specs.Readable.{OpenedAreReadable, ReadableAreOpened, TellsOfFile}
use Rattle.esto_run.specs.Readable.TellsOfFile.{fails, is_longer, has_fault}
use Rattle.esto_status.specs.Replies.{reply_status, reply_text}
use Rattle.esto_status.specs.declared.reply.Reply.{Reply}
use Rattle.esto_status.specs.declared.reply.Reply.TheVariants.{Done}
use Rattle.esto_status.specs.declared.status.Status.{Status}
use Rattle.esto_status.specs.declared.status.Status.TheVariants as status
use Rattle.esto_status.proofs.LeadLemmas.{gives-leads, judges-leads, leads-more, then-leads}
use Rattle.esto_rewriting.specs.Alike.{ChoiceIsOne}
use Rattle.esto_rewriting.specs.Listing.{IsClash}
use Rattle.esto_ports.specs.Files.{Files}
use Rattle.esto_query.specs.declared.query.Query.{Query}
use Rattle.esto_run.specs.Answers.{rows_text}
use Rattle.esto_run.specs.Laws.{FilesHoldViewRows, IsAnswerOfOne}
use Rattle.esto_docs.specs.Stores.{IsFileRow, IsRowIn}
use Rattle.esto_run.specs.Used.{AreUsedByAll, fragments_of}
use Rattle.esto_semantics.specs.Facts.{Database}
use Rattle.esto_semantics.specs.Queries.{ConjunctiveQuery}
use Rattle.esto_semantics.specs.Rules.{Meets}
use Rattle.esto_semantics.specs.Unions.{IsUnionAnswer}
use Rattle.esto_semantics.specs.declared.fact.Fact.{Fact}
use Rattle.esto_semantics.specs.declared.fact.Value.{Value}
use Rattle.esto_semantics.specs.declared.fact.Value.TheVariants.{Text, Node}
use Rattle.esto_semantics.proofs.ValueLemmas.{same_texts}
use Rattle.esto_stores.specs.Rows.{Row}
use Rattle.esto_term.proofs.ListLemmas.{Contains-filter, Contains-flat, Contains-flat_from, Contains-map, Contains-map_from}
use Rattle.esto_term.proofs.ZipLemmas.{zip_left}
use Rattle.esto_term.specs.declared.term.Term.{Term}
use Rattle.esto_union.specs.Unions.{queries_of}
use Rattle.esto_views.specs.Fragments.{views_of}
use Rattle.esto_run.proofs.SameLemmas.{itself}
use Rattle.esto_status.proofs.StatusLemmas.{done_not_clash, same_clash, done_not_above, clash_not_above, none_not_above, same_asked, same_least}
use Rattle.esto_rewriting.specs.Exact.{HasNoRewriting, HaveAnswers}
use Rattle.esto_rewriting.specs.UnionLaws.{EmptyListsAreTold, IsSameMember, MembersAreOne, MembersTellSatisfiable}
use Rattle.esto_rewriting.specs.Members.{AreMembersOf, ClashAt, HavePlan, OneIsEmpty, has_plan}
use Rattle.esto_rewriting.specs.Run.{AreChosen, HasNoChoice, IsChosenOf, IsNoRows, IsUnionRunText, runs_chosen, runs_end}
use Rattle.esto_rewriting.specs.Run.HasNoChoice.{is_empty, is_above}
use Rattle.esto_rewriting.specs.RunExact.{CanRunUnion, IsAboveLists, PrintsUnionAnswers, PrintsUnionRun, RunsUnionExactly, UnionRunsAreExact}
use Rattle.esto_rewriting.specs.RunLaws.{ChosenAreRewriting, RunsAnswerUnions}
use Rattle.esto_rewriting.specs.declared.members.Member.{Member}
use Rattle.esto_rewriting.specs.declared.members.Member.TheVariants.{Planned}
use Rattle.esto_rewriting.proofs.UnionExactLemmas.{first_clash, have_answers, have_plan, one_plan}
use Rattle.esto_rewriting.proofs.RunOneLemmas.{all_one, never_refused, refusal_one, refusal_there}

-- ---- the text

value_text : Value → List ℕ
value_text (Text text) = text
value_text (Node number) = []

texts_back : (row : Row) → map value_text (map Text row) ≡ row
unfolding value_text
texts_back [] = refl
texts_back (text ∷ row) = ap (λ rest. text ∷ rest) (texts_back row)

module _ (answer : RunsAnswerUnions) (catalogue : Catalogue) (queries : List Query) (number : Option ℕ) (members : List Member)
    (are : AreMembersOf catalogue queries members) (others : List ConjunctiveQuery) (chosen : AreChosen number members others) where
  prints_answers : (contents : ℕ → List ℕ) (text : List ℕ) → IsUnionRunText catalogue queries others contents text → (database : Database)
      → Meets (rules_of catalogue.rules) database
      → ((other : ConjunctiveQuery) → Contains others other → FilesHoldViewRows (views_of catalogue.fragments) database other catalogue.stores contents)
      → PrintsUnionAnswers queries database text
  prints_answers contents text (first, at, is) database meets hold = record {
    first = first;
    at = at;
    exact = record {
      rows = is.rows;
      exact = λ row. (
        (λ inside. (law (map Text row)).1 (row, refl, (is.exact row).0 inside)),
        (λ answers. let (other, same, over) = (law (map Text row)).0 answers in
            (is.exact row).1 (subst (λ (it : Row). IsAnswerOfOne (IsFileRow catalogue.stores contents) others it) (sym (same_texts row other same)) over)),
      );
      rising = is.rising;
      printed = is.printed;
    };
    texts = λ values answers. let (row, same, over) = (law values).0 answers in (row, same);
  }
    where
      law : (values : List Value) → IsUnionAnswer (queries_of queries) database values
          ↔ ((row : Row) × (values ≡ map Text row) × IsAnswerOfOne (IsFileRow catalogue.stores contents) others row)
      law = answer catalogue queries number members others contents database are chosen meets hold

-- the text rests on the contents of those files alone whose fragments the queries over fragments use
module _ (catalogue : Catalogue) (others : List ConjunctiveQuery) (contents wanted : ℕ → List ℕ)
    (same : (other : ConjunctiveQuery) → Contains others other → (atom : Fact Term) → Contains other.body atom
    → contents atom.relation ≡ wanted atom.relation) where
  over_wanted : (row : Row) → IsAnswerOfOne (IsFileRow catalogue.stores contents) others row → IsAnswerOfOne (IsFileRow catalogue.stores wanted) others row
  over_wanted row (other, inside, (m, keeps, sends, is)) = (
    other,
    inside,
    (
      m,
      keeps,
      (λ atom within. let (store, there, has) = sends atom within in
          (store, there, subst (λ (it : List ℕ). IsRowIn store.shape it (map m atom.terms)) (same other inside atom within) has)),
      is,
    ),
  )

  from_wanted : (row : Row) → IsAnswerOfOne (IsFileRow catalogue.stores wanted) others row → IsAnswerOfOne (IsFileRow catalogue.stores contents) others row
  from_wanted row (other, inside, (m, keeps, sends, is)) = (
    other,
    inside,
    (
      m,
      keeps,
      (λ atom within. let (store, there, has) = sends atom within in
          (store, there, subst (λ (it : List ℕ). IsRowIn store.shape it (map m atom.terms)) (sym (same other inside atom within)) has)),
      is,
    ),
  )

  text_wanted : (queries : List Query) (text : List ℕ) → IsUnionRunText catalogue queries others contents text
      → IsUnionRunText catalogue queries others wanted text
  text_wanted queries text (first, at, is) = (
    first,
    at,
    record {
      rows = is.rows;
      exact = λ row. ((λ inside. over_wanted row ((is.exact row).0 inside)), (λ answers. (is.exact row).1 (from_wanted row answers)));
      rising = is.rising;
      printed = is.printed;
    },
  )

-- ---- the files

-- the fragments that queries over fragments use are those of their atoms
module _ (others : List ConjunctiveQuery) (numbers : List ℕ) (used : AreUsedByAll others numbers) where
  used_from : (number : ℕ) → Contains numbers number
      → (other : ConjunctiveQuery) × Contains others other × (atom : Fact Term) × Contains other.body atom × (atom.relation ≡ number)
  used_from number inside =
      let (other, among, within) = Contains-flat_from (λ (it : ConjunctiveQuery). fragments_of it.body) others number ((used.exact number).0 inside) in
      let (atom, there, is) = Contains-map_from (λ (it : Fact Term). it.relation) other.body number within in (other, among, atom, there, is)

  used_there : (other : ConjunctiveQuery) → Contains others other → (atom : Fact Term) → Contains other.body atom → Contains numbers atom.relation
  used_there other among atom inside = (used.exact atom.relation).1
      (Contains-flat (λ (it : ConjunctiveQuery). fragments_of it.body) others other atom.relation among
      (Contains-map (λ (it : Fact Term). it.relation) other.body atom inside))

-- ---- statuses

-- a status that tells of a file is none of the others
not_done : (said : Status) → TellsOfFile said → said ≡ status.Done → ⊥
not_done said (fails name is) other = let h : status.ReadFault name ≡ status.Done = sym is ∙ other in cc
not_done said (is_longer name limit is) other = let h : status.TooLong name limit ≡ status.Done = sym is ∙ other in cc
not_done said (has_fault name fault is) other = let h : status.BadFragment name fault ≡ status.Done = sym is ∙ other in cc

not_clash : (clash : Clash) (said : Status) → TellsOfFile said → said ≡ status.Unsatisfiable clash → ⊥
not_clash clash said (fails name is) other = let h : status.ReadFault name ≡ status.Unsatisfiable clash = sym is ∙ other in cc
not_clash clash said (is_longer name limit is) other = let h : status.TooLong name limit ≡ status.Unsatisfiable clash = sym is ∙ other in cc
not_clash clash said (has_fault name fault is) other = let h : status.BadFragment name fault ≡ status.Unsatisfiable clash = sym is ∙ other in cc

not_none : (said : Status) → TellsOfFile said → said ≡ status.NoRewriting → ⊥
not_none said (fails name is) other = let h : status.ReadFault name ≡ status.NoRewriting = sym is ∙ other in cc
not_none said (is_longer name limit is) other = let h : status.TooLong name limit ≡ status.NoRewriting = sym is ∙ other in cc
not_none said (has_fault name fault is) other = let h : status.BadFragment name fault ≡ status.NoRewriting = sym is ∙ other in cc

not_above : (asked least : ℕ) (said : Status) → TellsOfFile said → said ≡ status.NoSuchNumber asked least → ⊥
not_above asked least said (fails name is) other = let h : status.ReadFault name ≡ status.NoSuchNumber asked least = sym is ∙ other in cc
not_above asked least said (is_longer name limit is) other =
    let h : status.TooLong name limit ≡ status.NoSuchNumber asked least = sym is ∙ other in cc
not_above asked least said (has_fault name fault is) other =
    let h : status.BadFragment name fault ≡ status.NoSuchNumber asked least = sym is ∙ other in cc

done_not_none : status.Done ≡ status.NoRewriting → ⊥
done_not_none same = cc

clash_not_none : (clash : Clash) → status.Unsatisfiable clash ≡ status.NoRewriting → ⊥
clash_not_none clash same = cc

-- a refusal to choose sets is neither a reply's
choice_not_done : (members : List Member) (number : Option ℕ) (said : Status) → HasNoChoice members number said → said ≡ status.Done → ⊥
choice_not_done members number said (is_empty one is) done = done_not_none (sym done ∙ is)
choice_not_done members number said (is_above asked least asks full is_least less is) done = done_not_above asked least (sym done ∙ is)

choice_not_clash : (clash : Clash) (members : List Member) (number : Option ℕ) (said : Status) → HasNoChoice members number said
    → said ≡ status.Unsatisfiable clash → ⊥
choice_not_clash clash members number said (is_empty one is) other = clash_not_none clash (sym other ∙ is)
choice_not_clash clash members number said (is_above asked least asks full is_least less is) other = clash_not_above clash asked least (sym other ∙ is)

-- ---- one union

themselves : (queries : List Query) → AreSameQueries queries queries
themselves [] = tt
themselves (query ∷ queries) = (record { head = refl; body = refl; names = refl }, themselves queries)

-- where sets are chosen, no list is empty
none_empty : (number : Option ℕ) (members : List Member) (others : List ConjunctiveQuery) → AreChosen number members others → ¬ (OneIsEmpty members)
none_empty number members others chosen (plan, inside) =
    let (other, among, (item, (place, is_place, there), same)) = zip_left (IsChosenOf number) (filter has_plan members) others chosen (Planned plan [])
    (Contains-filter has_plan members (Planned plan []) inside refl) in
    none-some item there

one_first : (queries : List Query) (first own : Query) → slice_get queries 0 ≡ Some first → slice_get queries 0 ≡ Some own → first ≡ own
one_first queries first own is is_own = same_Some first own (sym is ∙ is_own)

-- ---- the outcome

-- the laws by which runs of unions are exact
pub record RunExactLaws : Type 0 where
  pub answer : RunsAnswerUnions
  pub rewriting : ChosenAreRewriting
  pub tell : MembersTellSatisfiable
  pub empty : EmptyListsAreTold
  pub members : MembersAreOne
  pub choice : ChoiceIsOne
  pub opened : OpenedAreReadable
  pub readable : ReadableAreOpened

module _ (laws : RunExactLaws) (files : Files) (catalogue : Catalogue) (queries : List Query) (number : Option ℕ) where
  abbrev IsExact : Status → List ℕ → Type 0
  IsExact said text = RunsUnionExactly files catalogue queries number said text

  abbrev CanRun : Type 0
  CanRun = CanRunUnion files catalogue queries number

  module _ (members : List Member) (are : AreMembersOf catalogue queries members) where
    same_members : (others : List Member) → AreMembersOf catalogue queries others → AllZip IsSameMember members others
    same_members others are_too =
        laws.members catalogue catalogue queries queries members others (itself catalogue) (themselves queries) are are_too

    some_answers : HavePlan members → HaveAnswers catalogue queries
    some_answers some = have_answers catalogue queries members (laws.tell catalogue queries members are) some

    no_answers : ¬ (HavePlan members) → ¬ (HaveAnswers catalogue queries)
    no_answers none answers = none (have_plan catalogue queries members (laws.tell catalogue queries members are) answers)

    -- a number above the lists of the union's members is above those of these
    above_here : (asked least : ℕ) → IsAboveLists catalogue queries number asked least → HasNoChoice members number (status.NoSuchNumber asked least)
    above_here asked least above =
        refusal_there laws.choice number members above.members (same_members above.members above.are) (status.NoSuchNumber asked least)
        (is_above asked least above.asks above.full above.shortest above.above refl)

    -- no sets are chosen
    module _ (some : HavePlan members) (said : Status) (none : HasNoChoice members number said) where
      never_runs : CanRun → ⊥
      never_runs can =
          let zip = laws.members catalogue catalogue queries queries can.members members (itself catalogue) (themselves queries) can.are are in
          never_refused laws.choice number can.members can.others can.chosen said (refusal_there laws.choice number can.members members zip said none)

      empty_told : (said ≡ status.NoRewriting) ↔ HasNoRewriting catalogue queries
      empty_told = by none
        where
          by : HasNoChoice members number said → (said ≡ status.NoRewriting) ↔ HasNoRewriting catalogue queries
          by (is_empty one is) = ((λ same. (laws.empty catalogue queries members are).0 one), (λ absent. is))
          by (is_above asked least asks full is_least less is) = (
            (λ same. absurd (none_not_above asked least (sym same ∙ is))),
            (λ absent. absurd (full ((laws.empty catalogue queries members are).1 absent))),
          )

      above_told : (asked least : ℕ) → (said ≡ status.NoSuchNumber asked least) ↔ IsAboveLists catalogue queries number asked least
      above_told asked least = (
        by none,
        (λ above. refusal_one laws.choice number members said (status.NoSuchNumber asked least) none (above_here asked least above)),
      )
        where
          by : HasNoChoice members number said → said ≡ status.NoSuchNumber asked least → IsAboveLists catalogue queries number asked least
          by (is_empty one is) same = absurd (none_not_above asked least (sym is ∙ same))
          by (is_above own count asks full is_least less is) same =
              subst (λ (it : ℕ). IsAboveLists catalogue queries number it least) (same_asked own count asked least (sym is ∙ same))
              (subst (IsAboveLists catalogue queries number own) (same_least own count asked least (sym is ∙ same))
              (record { asks = asks; members = members; are = are; full = full; shortest = is_least; above = less }))

      not_chosen : IsExact said (line_of said)
      not_chosen = record {
        runs = λ can. absurd (never_runs can);
        done = λ is. absurd (choice_not_done members number said none is);
        unsatisfiable = (
          (λ (clash, is). absurd (choice_not_clash clash members number said none is)),
          (λ absent. absurd (absent (some_answers some))),
        );
        clash = λ clash is. absurd (choice_not_clash clash members number said none is);
        no_rewriting = empty_told;
        no_number = above_told;
        line = λ answers other. refl;
      }

    -- sets are chosen
    module _ (some : HavePlan members) (others : List ConjunctiveQuery) (chosen : AreChosen number members others) (numbers : List ℕ)
        (used : AreUsedByAll others numbers) where
      has_rewriting : ¬ (HasNoRewriting catalogue queries)
      has_rewriting absent = none_empty number members others chosen ((laws.empty catalogue queries members are).1 absent)

      not_above_lists : (asked least : ℕ) → ¬ (IsAboveLists catalogue queries number asked least)
      not_above_lists asked least above =
          never_refused laws.choice number members others chosen (status.NoSuchNumber asked least) (above_here asked least above)

      module _ (can : CanRun) where
        same_others : can.others ≡ others
        same_others =
            all_one laws.choice number can.members members
            (laws.members catalogue catalogue queries queries can.members members (itself catalogue) (themselves queries) can.are are)
            can.others others can.chosen chosen

        opens : Leads (opens_fragments (Some files) catalogue numbers)
            (λ opened. (fragment : ℕ) → Contains numbers fragment → opened fragment ≡ can.contents fragment) (λ _. ⊥)
        opens = laws.readable files catalogue catalogue numbers can.contents (itself catalogue) (λ fragment inside.
            let (other, among, atom, within, is) = used_from others numbers used fragment inside in
            subst (λ (it : ℕ). IsReadableFragment files catalogue it (can.contents it)) is
            (can.readable other (subst (λ (it : List ConjunctiveQuery). Contains it other) (sym same_others) among) atom within))

        -- what was opened are the files that are readable
        prints : (contents : ℕ → List ℕ) → (opens_fragments (Some files) catalogue numbers).goes contents → (text : List ℕ)
            → IsUnionRunText catalogue queries others contents text → PrintsUnionRun catalogue queries can.others can.contents text
        prints contents opened text rows = record {
          rewriting = laws.rewriting catalogue queries number can.members can.others can.are can.chosen;
          rows = over;
          answers = prints_answers laws.answer catalogue queries number can.members can.are can.others can.chosen can.contents text over;
        }
          where
            over : IsUnionRunText catalogue queries can.others can.contents text
            over = subst (λ (it : List ConjunctiveQuery). IsUnionRunText catalogue queries it can.contents text) (sym same_others)
                (text_wanted catalogue others contents can.contents
                (λ other among atom inside. opens.goes contents opened atom.relation (used_there others numbers used other among atom inside))
                queries text rows)

      can_run : (contents : ℕ → List ℕ) → (opens_fragments (Some files) catalogue numbers).goes contents → CanRun
      can_run contents opened = record {
        answers = some_answers some;
        members = members;
        are = are;
        others = others;
        chosen = chosen;
        contents = contents;
        readable = λ other among atom inside. (laws.opened files catalogue catalogue numbers (itself catalogue)).goes contents opened atom.relation
            (used_there others numbers used other among atom inside);
      }

      prints_text : (contents : ℕ → List ℕ) → (opens_fragments (Some files) catalogue numbers).goes contents → (text : List ℕ)
          → IsUnionRunText catalogue queries others contents text → IsExact status.Done text
      prints_text contents opened text rows = record {
        runs = λ can. (refl, prints can contents opened text rows);
        done = λ is. can_run contents opened;
        unsatisfiable = (
          (λ (clash, is). absurd (done_not_clash clash is)),
          (λ absent. absurd (absent (some_answers some))),
        );
        clash = λ clash is. absurd (done_not_clash clash is);
        no_rewriting = ((λ is. absurd (done_not_none is)), (λ absent. absurd (has_rewriting absent)));
        no_number = λ asked least. (
          (λ is. absurd (done_not_above asked least is)),
          (λ above. absurd (not_above_lists asked least above)),
        );
        line = λ answers other. absurd (other refl);
      }

      not_opened : (said : Status) → IsCaused ⊥ said → (opens_fragments (Some files) catalogue numbers).stops said → IsExact said (line_of said)
      not_opened said caused stops =
          let told = (laws.opened files catalogue catalogue numbers (itself catalogue)).stops said caused stops in record {
            runs = λ can. absurd ((opens can).stops said caused stops);
            done = λ is. absurd (not_done said told is);
            unsatisfiable = (
              (λ (clash, is). absurd (not_clash clash said told is)),
              (λ absent. absurd (absent (some_answers some))),
            );
            clash = λ clash is. absurd (not_clash clash said told is);
            no_rewriting = ((λ is. absurd (not_none said told is)), (λ absent. absurd (has_rewriting absent)));
            no_number = λ asked least. (
              (λ is. absurd (not_above asked least said told is)),
              (λ above. absurd (not_above_lists asked least above)),
            );
            line = λ answers other. refl;
          }

    -- no query is satisfiable
    tells_clash : ¬ (HavePlan members) → (first : Query) (clash : Clash) → slice_get queries 0 ≡ Some first → IsClash catalogue first clash
        → IsExact (status.Unsatisfiable clash) (rows_text first [])
    tells_clash none first clash at clashes = record {
      runs = λ can. absurd (no_answers none can.answers);
      done = λ is. absurd (done_not_clash clash (sym is));
      unsatisfiable = ((λ told. no_answers none), (λ absent. (clash, refl)));
      clash = λ other is. (first, at, subst (IsClash catalogue first) (same_clash clash other is) clashes, refl);
      no_rewriting = (
        (λ is. absurd (clash_not_none clash is)),
        (λ absent. let (plan, inside) = (laws.empty catalogue queries members are).1 absent in absurd (none (one_plan catalogue members plan [] inside))),
      );
      no_number = λ asked least. (
        (λ is. absurd (clash_not_above clash asked least is)),
        (λ above. let (plan, items, inside, is) = above.shortest.one in
            absurd (no_answers none (have_answers catalogue queries above.members (laws.tell catalogue queries above.members above.are)
            (one_plan catalogue above.members plan items inside)))),
      );
      line = λ answers. absurd (no_answers none answers);
    }

    -- ---- the course

    abbrev Replies : Reply → Type 0
    Replies reply = IsExact (reply_status reply) (reply_text reply)

    abbrev Refuses : Status → Type 0
    Refuses said = IsExact said (line_of said)

    chosen_leads : HavePlan members → (others : List ConjunctiveQuery) → AreChosen number members others
        → Leads (runs_chosen (Some files) catalogue queries others) Replies Refuses
    chosen_leads some others chosen =
        then-leads _ _ (AreUsedByAll others) _ Refuses (judges-leads _ _ _ (λ said caused never. absurd never)) (λ numbers used.
        then-leads _ _ (λ contents. (opens_fragments (Some files) catalogue numbers).goes contents) _ Refuses
        (record { goes = λ contents opened. opened; stops = not_opened some others chosen numbers used }) (λ contents opened.
        then-leads _ _ (IsUnionRunText catalogue queries others contents) _ Refuses (judges-leads _ _ _ (λ said caused never. absurd never)) (λ text rows.
        leads-more _ (λ reply. reply ≡ Done text) _ Refuses
        (λ reply is. subst Replies (sym is) (prints_text some others chosen numbers used contents opened text rows)) (gives-leads (Done text) Refuses))))

    end_leads : (end : Option Clash) → MatchOption end (HavePlan members) (ClashAt members)
        → Leads (runs_end (Some files) catalogue queries number members end) Replies Refuses
    end_leads None some =
        then-leads _ _ (AreChosen number members) _ Refuses (judges-leads _ _ _ (λ said caused none. not_chosen some said none))
        (λ others chosen. chosen_leads some others chosen)
    end_leads (Some clash) (none, at) =
        leads-more _ (IsNoRows queries clash) _ Refuses
        (λ reply (first, is_first, is). let (own, is_own, clashes) = first_clash catalogue queries queries members are clash at in
        subst Replies (sym is) (tells_clash none first clash is_first
        (subst (λ (it : Query). IsClash catalogue it clash) (sym (one_first queries first own is_first is_own)) clashes)))
        (judges-leads _ _ _ (λ said caused never. absurd never))

pub union_runs_exactly : RunExactLaws → UnionRunsAreExact
union_runs_exactly laws files catalogue queries number =
    then-leads _ _ (AreMembersOf catalogue queries) _ _ (judges-leads _ _ _ (λ said caused never. absurd never)) (λ members are.
    then-leads _ _ (λ end. MatchOption end (HavePlan members) (ClashAt members)) _ _ (judges-leads _ _ _ (λ said caused never. absurd never))
    (λ end is. end_leads laws files catalogue queries number members are end is))
