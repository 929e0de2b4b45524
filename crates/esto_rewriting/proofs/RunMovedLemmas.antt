-- What `run` answers to a union over one of two catalogues that say the same it may answer over the other.
use Rattle.std.proofs.Common.{◌≡◌, ℕ, suc, List, [], ◌∷◌, slice_get, Option, Some, None, refl, sym, ap, ◌∙◌, subst, inl, inr}
use Rattle.std.proofs.lemmas.Option.{none-some, same_Some}
use Rattle.esto_mapping.specs.Catalogues.{AreSame}
use Rattle.esto_mapping.specs.declared.catalogue.Catalogue.{Catalogue}
use Rattle.esto_chase_laws.specs.declared.clash.Clash.{Clash}
use Rattle.esto_course.specs.Course.{Course, and_then, each, gives, judges}
use Rattle.esto_run.proofs.StoreAlikeLemmas.{same_fault, same_file, same_named}
use Rattle.esto_run.proofs.ReadableLemmas.{stored_here}
use Rattle.esto_run.proofs.RowsTextLemmas.{same_rows_text}
use Rattle.esto_query.specs.Same.{AreSameQueries, IsSameQuery}
use Rattle.esto_run.specs.FragmentsAlike.{StoresHaveOneContent}
use Rattle.esto_status.specs.Calm.{Leads}
use Rattle.esto_status.specs.Fetch.{fetches}
use Rattle.esto_run.specs.Fragments.{IsStoredAt, Stored, no_contents, opens_fragment, opens_fragments, opens_next, opens_stored, with_content}
use Rattle.esto_status.specs.declared.limits.TheConstants.{DATA_LIMIT}
use Rattle.esto_status.specs.declared.reply.Reply.{Reply}
use Rattle.esto_status.specs.declared.reply.Reply.TheVariants.{Unsatisfiable}
use Rattle.esto_status.specs.declared.status.Status.{Status}
use Rattle.esto_status.specs.declared.status.Status.TheVariants as status
use Rattle.esto_rewriting.specs.Alike.{ClashIsMoved, PlanIsMoved}
use Rattle.esto_ports.specs.Files.{Files}
use Rattle.esto_query.specs.declared.query.Query.{Query}
use Rattle.esto_run.specs.Laws.{IsAnswerOfOne}
use Rattle.esto_docs.specs.Stores.{IsFileRow}
use Rattle.esto_semantics.specs.Facts.{image}
use Rattle.esto_semantics.specs.Queries.{ConjunctiveQuery}
use Rattle.esto_stores.specs.Rows.{Row}
use Rattle.esto_rewriting.specs.RunLaws.{UnionRunsAreMoved}
use Rattle.esto_rewriting.specs.Run.{IsNoRows, IsUnionRunText, chooses_each, ends_members, runs_chosen, runs_end, runs_members}
use Rattle.esto_rewriting.specs.declared.members.Member.{Member}
use Rattle.esto_rewriting.proofs.UnionMovedLemmas.{all_moved}

-- ---- courses

-- the course goes on and stops as the other may
abbrev IsMoved : {A : Type 0} → Course Status A → Course Status A → Type 0
IsMoved course other = Leads course other.goes other.stops

itself_moved : {A : Type 0} (course : Course Status A) → IsMoved course course
itself_moved course = record { goes = λ value goes. goes; stops = λ refusal caused stops. stops }

judges_moved : {A : Type 0} (Accepts Others : A → Type 0) (Refuses : Status → Type 0) → ((value : A) → Accepts value → Others value)
    → IsMoved (judges Accepts Refuses) (judges Others Refuses)
unfolding judges
judges_moved Accepts Others Refuses more = record { goes = more; stops = λ refusal caused stops. stops }

then_moved : {A B : Type 0} (first other : Course Status A) (next others : A → Course Status B) → IsMoved first other
    → ((value : A) → first.goes value → IsMoved (next value) (others value)) → IsMoved (and_then first next) (and_then other others)
unfolding and_then
then_moved first other next others one two = record {
  goes = λ result (value, goes, more). (value, one.goes value goes, (two value goes).goes result more);
  stops = λ refusal caused stop. elim stop [
    | inl here ↦ inl (one.stops refusal caused here)
    | inr (value, goes, later) ↦
        inr (value, one.goes value goes, (two value goes).stops refusal caused later)
  ];
}

-- ---- the files of fragments

module _ (files : Files) (catalogue other : Catalogue) (alike : AreSame catalogue other) where
  module _ (number : ℕ) (own stored : Stored) (here : IsStoredAt catalogue number own) (there : IsStoredAt other number stored) where
    fetched_here : (bytes : List ℕ) → (fetches (Some files) stored.store.file DATA_LIMIT).goes bytes
        → (fetches (Some files) own.store.file DATA_LIMIT).goes bytes
    fetched_here bytes = subst (λ it. (fetches (Some files) it DATA_LIMIT).goes bytes)
        (sym (same_file catalogue other alike number own stored here there))

    stored_moved : IsMoved (opens_stored (Some files) stored) (opens_stored (Some files) own)
    unfolding and_then judges gives
    stored_moved = record {
      goes = λ result (bytes, fetched, (value, none, is)).
          (bytes, fetched_here bytes fetched, (value, same_fault catalogue other alike number own stored here there bytes ∙ none, is));
      stops = λ refusal caused stop. elim stop [
        | inl fails ↦ inl (subst (λ it. (fetches (Some files) it DATA_LIMIT).stops refusal)
            (sym (same_file catalogue other alike number own stored here there)) fails)
        | inr (bytes, fetched, inl (fault, found, is)) ↦ inr (
          bytes,
          fetched_here bytes fetched,
          inl (
            fault,
            same_fault catalogue other alike number own stored here there bytes ∙ found,
            is ∙ ap (λ it. status.BadFragment it fault) (sym (same_named catalogue other alike number own stored here there)),
          ),
        )
        | inr (bytes, fetched, inr (value, none, never)) ↦ absurd never
      ];
    }

  fragment_moved : (number : ℕ) → IsMoved (opens_fragment (Some files) other number) (opens_fragment (Some files) catalogue number)
  unfolding and_then judges
  fragment_moved number = record {
    goes = λ bytes (stored, at, goes). let own = stored_here files catalogue other alike number stored at in
        (own.0, own.1, (stored_moved number own.0 stored own.1 at).goes bytes goes);
    stops = λ refusal caused stop. elim stop [
      | inl never ↦ absurd never
      | inr (stored, at, stops) ↦ (let own = stored_here files catalogue other alike number stored at in
          inr (own.0, own.1, (stored_moved number own.0 stored own.1 at).stops refusal caused stops))
    ];
  }

  each_moved : (counter : ℕ) (contents : ℕ → List ℕ) (numbers : List ℕ)
      → IsMoved (each (opens_next (Some files) other) counter contents numbers) (each (opens_next (Some files) catalogue) counter contents numbers)
  each_moved counter contents [] = itself_moved (gives contents)
  each_moved counter contents (number ∷ rest) =
      then_moved _ _ _ _ (then_moved _ _ _ _ (fragment_moved number) (λ bytes goes. itself_moved (gives (with_content contents number bytes))))
      (λ next goes. each_moved (suc counter) next rest)

  fragments_moved : (numbers : List ℕ) → IsMoved (opens_fragments (Some files) other numbers) (opens_fragments (Some files) catalogue numbers)
  fragments_moved numbers = each_moved 0 no_contents numbers

-- ---- the rows

-- the first of queries that are the same
first_same : (queries same : List Query) → AreSameQueries queries same → (other : Query) → slice_get same 0 ≡ Some other
    → (first : Query) × (slice_get queries 0 ≡ Some first) × IsSameQuery first other
first_same [] [] are other is = absurd (none-some other is)
first_same [] (query ∷ same) are other is = absurd are
first_same (query ∷ queries) [] are other is = absurd are
first_same (query ∷ queries) (read ∷ same) are other is = (query, refl, subst (IsSameQuery query) (same_Some read other is) are.0)

module _ (one_content : StoresHaveOneContent) (catalogue other : Catalogue) (alike : AreSame catalogue other) (contents : ℕ → List ℕ)
    (others : List ConjunctiveQuery) (row : Row) where
  answer_here : IsAnswerOfOne (IsFileRow other.stores contents) others row → IsAnswerOfOne (IsFileRow catalogue.stores contents) others row
  answer_here (query, inside, (m, keeps, sends, is)) = (
    query,
    inside,
    (m, keeps, λ fact within. (one_content catalogue.stores other.stores contents (image m fact) alike.stores).1 (sends fact within), is),
  )

  answer_there : IsAnswerOfOne (IsFileRow catalogue.stores contents) others row → IsAnswerOfOne (IsFileRow other.stores contents) others row
  answer_there (query, inside, (m, keeps, sends, is)) = (
    query,
    inside,
    (m, keeps, λ fact within. (one_content catalogue.stores other.stores contents (image m fact) alike.stores).0 (sends fact within), is),
  )

-- ---- the run

module _ (one_content : StoresHaveOneContent) (files : Files) (catalogue other : Catalogue) (alike : AreSame catalogue other) (queries same : List Query)
    (are : AreSameQueries queries same) where
  pub text_here : (others : List ConjunctiveQuery) (contents : ℕ → List ℕ) (text : List ℕ) → IsUnionRunText other same others contents text
      → IsUnionRunText catalogue queries others contents text
  text_here others contents text (read, at, is) =
      let first = first_same queries same are read at in (
        first.0,
        first.1,
        record {
          rows = is.rows;
          exact = λ row. (
            λ inside. answer_here one_content catalogue other alike contents others row ((is.exact row).0 inside),
            λ answers. (is.exact row).1 (answer_there one_content catalogue other alike contents others row answers),
          );
          rising = is.rising;
          printed = is.printed ∙ sym (same_rows_text first.0 read first.2 is.rows);
        },
      )

  pub no_rows_here : (clash : Clash) (reply : Reply) → IsNoRows same clash reply → IsNoRows queries clash reply
  no_rows_here clash reply (read, at, is) =
      let first = first_same queries same are read at in
      (first.0, first.1, is ∙ ap (Unsatisfiable clash) (sym (same_rows_text first.0 read first.2 [])))

  chosen_moved : (others : List ConjunctiveQuery) → IsMoved (runs_chosen (Some files) other same others) (runs_chosen (Some files) catalogue queries others)
  chosen_moved others =
      then_moved _ _ _ _ (itself_moved _) (λ numbers used.
      then_moved _ _ _ _ (fragments_moved files catalogue other alike numbers) (λ contents opened.
      then_moved _ _ _ _ (judges_moved _ _ _ (text_here others contents)) (λ text printed. itself_moved _)))

  end_moved : (number : Option ℕ) (members : List Member) (end : Option Clash)
      → IsMoved (runs_end (Some files) other same number members end) (runs_end (Some files) catalogue queries number members end)
  end_moved number members None = then_moved _ _ _ _ (itself_moved (chooses_each members number)) (λ others chosen. chosen_moved others)
  end_moved number members (Some clash) = judges_moved _ _ _ (no_rows_here clash)

  members_run_moved : (number : Option ℕ) (members : List Member)
      → IsMoved (runs_members (Some files) other same number members) (runs_members (Some files) catalogue queries number members)
  members_run_moved number members = then_moved _ _ _ _ (itself_moved (ends_members members)) (λ end ends. end_moved number members end)

pub runs_moved : PlanIsMoved → ClashIsMoved → StoresHaveOneContent → UnionRunsAreMoved
runs_moved plans clashes one_content files catalogue other queries same number alike are =
    then_moved _ _ _ _ (judges_moved _ _ _ (all_moved plans clashes catalogue other alike queries same are))
    (λ members made. members_run_moved one_content files catalogue other alike queries same are number members)
