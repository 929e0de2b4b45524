-- What `explain` and `verify` answer where nothing is wrong with the catalogue's and the query's files.
use Rattle.std.specs.Prelude.{◌≡◌, ◌≢◌, ◌↔◌, ℕ, ◌-◌, ◌≤◌, Bool, IsTrue, List, [], ◌∷◌, length, slice_get, Option, Some, codes}
use Rattle.esto_mapping.specs.declared.catalogue.Catalogue.{Catalogue}
use Rattle.esto_top.specs.CertificateLaws.{Certifies, SaysVerdict}
use Rattle.esto_rewriting.specs.Verify.{first_above, HasVerdict, IsSetOf}
use Rattle.esto_status.specs.declared.limits.TheConstants.{DATA_LIMIT}
use Rattle.esto_list.specs.declared.listing.Listed.{Listed}
use Rattle.esto_status.specs.Fetch.{HasWithin}
use Rattle.esto_status.specs.Line.{line_of}
use Rattle.esto_status.specs.declared.status.Status.{Status}
use Rattle.esto_status.specs.declared.status.Status.TheVariants as status
use Rattle.esto_rewriting.specs.Listing.{IsListOf, IsPlanned}
use Rattle.esto_ports.specs.Files.{Files, Holds}
use Rattle.esto_query.specs.declared.query.Query.{Query}
use Rattle.esto_semantics.specs.Queries.{ConjunctiveQuery}
use Rattle.esto_views.specs.declared.plan.Plan.{Plan}
use Rattle.esto_top.specs.Call.{Call, HoldsOfPut, WhereTold}
use Rattle.esto_top.specs.Grammar.{atom_numbers, is_list_number, value_of}
use Rattle.esto_top.specs.Headline.{FilesSay, HasAnswers, IsExactRefusal, Rewrites}
use Rattle.esto_top.specs.Outcome.{Outcome}
use Rattle.esto_top.specs.Runs.{IsAboveList}

-- ---- what `explain` says

-- The item stands at the number, counted from 1, in the list of the query's printed plan.
pub record IsNumbered (catalogue : Catalogue) (query : Query) (number : ℕ) (plan : Plan) (item : Listed) : Type 0 where
  pub planned : IsPlanned catalogue query plan
  pub items : List Listed
  pub list : IsListOf catalogue query plan items
  pub there : slice_get items (number - 1) ≡ Some item

-- What is said for a number of the list. The query is refused exactly where it is unsatisfiable. Where it is satisfiable, the status is NoRewriting exactly
-- where the query has no executable rewriting; and it is NoSuchNumber exactly where sets are listed and the number, which it tells, is above how many they are,
-- which it tells too. Where the list has an item of the number, and only there, the status is Done, and the text is a certificate for the item's set. A refusal
-- has its line.
pub record IsExactExplain (catalogue : Catalogue) (query : Query) (number : ℕ) (said : Status) (text : List ℕ) : Type 0 where
  pub refused : ¬ (HasAnswers catalogue query) ↔ IsExactRefusal catalogue query said text
  pub no_rewriting : HasAnswers catalogue query → (said ≡ status.NoRewriting) ↔ ((other : ConjunctiveQuery) → ¬ (Rewrites catalogue query other))
  pub no_number : (asked count : ℕ) → (said ≡ status.NoSuchNumber asked count) ↔ IsAboveList catalogue query (Some number) asked count
  pub done : (said ≡ status.Done) ↔ ((plan : Plan) × (item : Listed) × IsNumbered catalogue query number plan item)
  pub certifies : (plan : Plan) (item : Listed) → IsNumbered catalogue query number plan item → Certifies catalogue query plan item.set text
  pub line : said ≢ status.Done → text ≡ line_of said

-- ---- what `verify` says

-- What is said over a printed plan, for numbers of its atoms and a certificate's file. The first number above how many atoms there are is refused, with how
-- many they are. Where the numbers name a set, and the file is within its limit, the file's verdict for the set is said: Done and that it is accepted, or
-- Rejected with the line. Done is said only where it is accepted, so that it certifies the set, and Rejected only where that is the verdict.
pub record VerifiesExactly (files : Files) (catalogue : Catalogue) (query : Query) (plan : Plan) (numbers file : List ℕ) (said : Status)
    (text : List ℕ) : Type 0 where
  pub number : (number count : ℕ)
      → (said ≡ status.NoSuchNumber number count) ↔ ((first_above (length plan.atoms) numbers ≡ Some number) × (count ≡ length plan.atoms))
  pub verdict : (set : List Bool) (bytes : List ℕ) (verdict : Option ℕ) → IsSetOf (length plan.atoms) numbers set
      → HasWithin files file DATA_LIMIT bytes → HasVerdict catalogue query plan set bytes verdict → SaysVerdict verdict said text
  pub accepted : said ≡ status.Done → (set : List Bool) × (bytes : List ℕ) × IsSetOf (length plan.atoms) numbers set
      × HasWithin files file DATA_LIMIT bytes × Certifies catalogue query plan set bytes
  pub rejected : (line : ℕ) → said ≡ status.Rejected line → (set : List Bool) × (bytes : List ℕ) × IsSetOf (length plan.atoms) numbers set
      × HasWithin files file DATA_LIMIT bytes × HasVerdict catalogue query plan set bytes (Some line)

-- The query is refused exactly where it is unsatisfiable; and so it is said over each printed plan of the query. A refusal has its line.
pub record IsExactVerify (files : Files) (catalogue : Catalogue) (query : Query) (numbers file : List ℕ) (said : Status) (text : List ℕ) : Type 0 where
  pub refused : ¬ (HasAnswers catalogue query) ↔ IsExactRefusal catalogue query said text
  pub verifies : (plan : Plan) → IsPlanned catalogue query plan → VerifiesExactly files catalogue query plan numbers file said text
  pub line : said ≢ status.Done → text ≡ line_of said

-- ---- outcomes

-- The words ask for a certificate for the set of that number of the list.
abbrev pub AsksExplain : List (List ℕ) → List ℕ → List ℕ → ℕ → Type 0
AsksExplain words catalogue_name query_name number =
    (word : List ℕ) × IsTrue (is_list_number word) × (number ≡ value_of word) × (words ≡ codes "explain" ∷ catalogue_name ∷ query_name ∷ word ∷ [])

-- Each outcome of `explain C Q N` is exact, where the files say a catalogue and a query over it.
abbrev pub OutcomesAreExplained : Type 0
OutcomesAreExplained =
    (words : List (List ℕ)) (files : Files) (catalogue_name query_name : List ℕ) (number : ℕ) (catalogue : Catalogue) (query : Query) (said : Status)
    (text : List ℕ)
    → AsksExplain words catalogue_name query_name number → FilesSay files catalogue_name query_name catalogue query → Outcome words files said text
    → IsExactExplain catalogue query number said text

-- The words ask to verify a certificate's file for the atoms of these numbers.
abbrev pub AsksVerify : List (List ℕ) → List ℕ → List ℕ → List ℕ → List ℕ → Type 0
AsksVerify words catalogue_name query_name numbers file =
    (atoms : List ℕ) × (atom_numbers atoms ≡ Some numbers) × (words ≡ codes "verify" ∷ catalogue_name ∷ query_name ∷ atoms ∷ file ∷ [])

-- Each outcome of `verify C Q A FILE` is exact, where the files say a catalogue and a query over it.
abbrev pub OutcomesAreVerified : Type 0
OutcomesAreVerified =
    (words : List (List ℕ)) (files : Files) (catalogue_name query_name numbers file : List ℕ) (catalogue : Catalogue) (query : Query) (said : Status)
    (text : List ℕ)
    → AsksVerify words catalogue_name query_name numbers file → FilesSay files catalogue_name query_name catalogue query → Outcome words files said text
    → IsExactVerify files catalogue query numbers file said text

-- Let `explain C Q N` be Done over files, with a text. Over files that say the same catalogue and query, of which one is that text and within the limit of a
-- certificate, each outcome of `verify C Q A FILE` for it and for the numbers A of the atoms of that listed set is Done and says that it is accepted.
abbrev pub OutcomesOfExplainAreAccepted : Type 0
OutcomesOfExplainAreAccepted =
    (words others : List (List ℕ)) (files later : Files) (catalogue_name query_name other_catalogue other_query numbers file : List ℕ) (number : ℕ)
    (catalogue : Catalogue) (query : Query) (plan : Plan) (item : Listed) (written : List ℕ) (said : Status) (text : List ℕ)
    → AsksExplain words catalogue_name query_name number → FilesSay files catalogue_name query_name catalogue query
    → Outcome words files status.Done written → IsNumbered catalogue query number plan item
    → AsksVerify others other_catalogue other_query numbers file → FilesSay later other_catalogue other_query catalogue query
    → Holds (Some later) file written → length written ≤ DATA_LIMIT → IsSetOf (length plan.atoms) numbers item.set
    → Outcome others later said text → (said ≡ status.Done) × (text ≡ codes "accepted\n")

-- ---- what the top call says

-- What `explain C Q N` puts is exact, or memory was refused and nothing put, where the files are told and say a catalogue and a query over it, and neither
-- count rose.
abbrev pub ExplainsWhereTold : Call → Type 0
ExplainsWhereTold call = WhereTold call (λ files.
    (catalogue_name query_name : List ℕ) (number : ℕ) (catalogue : Catalogue) (query : Query)
    → AsksExplain call.words catalogue_name query_name number → FilesSay files catalogue_name query_name catalogue query
    → HoldsOfPut (IsExactExplain catalogue query number) call)

-- What `verify C Q A FILE` puts is exact, or memory was refused and nothing put, where the files are told and say a catalogue and a query over it, and neither
-- count rose.
abbrev pub VerifiesWhereTold : Call → Type 0
VerifiesWhereTold call = WhereTold call (λ files.
    (catalogue_name query_name numbers file : List ℕ) (catalogue : Catalogue) (query : Query)
    → AsksVerify call.words catalogue_name query_name numbers file → FilesSay files catalogue_name query_name catalogue query
    → HoldsOfPut (IsExactVerify files catalogue query numbers file) call)
