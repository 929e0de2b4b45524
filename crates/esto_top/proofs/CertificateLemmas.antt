-- What `verify` answers where nothing is wrong with the catalogue's and the query's files.
use Rattle.std.proofs.Common.{◌≡◌, ◌↔◌, ℕ, Bool, List, length, Some, sym, ap, subst, ◌∙◌, inl, inr}
use Rattle.std.proofs.lemmas.Option.{none-some, same_Some}
use Rattle.esto_mapping.specs.declared.catalogue.Catalogue.{Catalogue}
use Rattle.esto_top.specs.CertificateLaws.{Certifies, IsChecked, IsVerified, SaysVerdict, VerifyChecksCertificates, VerifyIsOne, VerifySaysVerdicts}
use Rattle.esto_top.specs.CertificateLaws.IsChecked.{is_above, not_fetched, accepts, rejects}
use Rattle.esto_top.specs.CertificateLaws.IsVerified.{clashes, has_plan}
use Rattle.esto_rewriting.specs.Verify.{first_above, HasVerdict, IsSetOf}
use Rattle.esto_top.specs.Verify.{verify_course}
use Rattle.esto_status.specs.declared.limits.TheConstants.{DATA_LIMIT}
use Rattle.esto_course.proofs.Determined.{judges_agree, then_agree}
use Rattle.esto_course.specs.Course.{and_then, judges}
use Rattle.esto_status.specs.Calm.{AgreeCalmly, SaysAlways}
use Rattle.esto_status.specs.Fetch.{FetchStops, HasWithin}
use Rattle.esto_status.specs.Fetch.FetchStops.{fails, is_longer}
use Rattle.esto_status.specs.Line.{line_of}
use Rattle.esto_opening.specs.Opening.{opens_catalogue, opens_query}
use Rattle.esto_status.specs.declared.status.Status.{Status}
use Rattle.esto_status.specs.declared.status.Status.TheVariants as status
use Rattle.esto_ports.specs.Files.{Files}
use Rattle.esto_query.specs.declared.query.Query.{Query}
use Rattle.esto_views.specs.declared.plan.Plan.{Plan}
use Rattle.esto_top.specs.CertificateOutcomes.{AsksVerify, IsExactVerify, OutcomesAreVerified}
use Rattle.esto_top.specs.Grammar.{atom_numbers, course_of, names_atoms, verifies_named}
use Rattle.esto_top.specs.Headline.{FilesSay, HasAnswers, IsExactRefusal}
use Rattle.esto_top.specs.Laws.{ListingLaws}
use Rattle.esto_top.specs.Outcome.{Outcome, Says}
use Rattle.esto_top.proofs.DataLemmas.{says_fact}
use Rattle.esto_top.proofs.SayLemmas.{catalogue_opens, query_opens}

-- ---- one outcome

-- a word names one list of numbers, or none
named_agree : (atoms : List ℕ) → AgreeCalmly ◌≡◌ (names_atoms atoms) (names_atoms atoms)
named_agree atoms = judges_agree _ _ _ _ _ _
    (λ numbers others here there. same_Some numbers others (sym here ∙ there))
    (λ said other_said caused other_caused here there. here.1 ∙ sym there.1)
    (λ numbers said caused here there. none-some numbers (sym there.0 ∙ here))
    (λ numbers said caused here there. none-some numbers (sym there.0 ∙ here))

pub verify_agrees : VerifyIsOne → (files : Files) (catalogue_name query_name atoms file : List ℕ)
    → AgreeCalmly ◌≡◌ (verifies_named (Some files) catalogue_name query_name atoms file) (verifies_named (Some files) catalogue_name query_name atoms file)
verify_agrees one files catalogue_name query_name atoms file =
    then_agree _ ◌≡◌ ◌≡◌ _ _ _ _ (named_agree atoms) (λ numbers others goes same.
    subst (λ (it : List ℕ). AgreeCalmly ◌≡◌ (verify_course (Some files) catalogue_name query_name numbers file)
    (verify_course (Some files) catalogue_name query_name it file)) same (one files catalogue_name query_name numbers file))

-- ---- which outcome

module _ (files : Files) (catalogue_name query_name atoms numbers file : List ℕ) (named : atom_numbers atoms ≡ Some numbers) where
  -- what is said for the numbers is said for the word that names them
  named_says : (Fact : Status → List ℕ → Type 0) → SaysAlways (verify_course (Some files) catalogue_name query_name numbers file) Fact
      → SaysAlways (verifies_named (Some files) catalogue_name query_name atoms file) Fact
  unfolding and_then judges
  named_says Fact always = record {
    goes = λ reply goes.
        always.goes reply (subst (λ (it : List ℕ). (verify_course (Some files) catalogue_name query_name it file).goes reply)
        (same_Some _ _ (sym goes.1 ∙ named)) goes.2);
    stops = λ said caused stops. elim stops [
      | inl early ↦ absurd (none-some numbers (sym early.0 ∙ named))
      | inr late ↦
          always.stops said caused (subst (λ (it : List ℕ). (verify_course (Some files) catalogue_name query_name it file).stops said)
          (same_Some _ _ (sym late.1 ∙ named)) late.2)
    ];
  }

-- ---- statuses apart

done_apart : (said : Status) (number count line : ℕ) → said ≡ status.Done → (said ≡ status.NoSuchNumber number count → ⊥) × (said ≡ status.Rejected line → ⊥)
done_apart said number count line is = (
  (λ tells. let h : status.Done ≡ status.NoSuchNumber number count = sym is ∙ tells in cc),
  (λ tells. let h : status.Done ≡ status.Rejected line = sym is ∙ tells in cc),
)

above_apart : (said : Status) (number count line : ℕ) → said ≡ status.NoSuchNumber number count
    → (said ≡ status.Done → ⊥) × (said ≡ status.Rejected line → ⊥)
above_apart said number count line is = (
  (λ tells. let h : status.NoSuchNumber number count ≡ status.Done = sym is ∙ tells in cc),
  (λ tells. let h : status.NoSuchNumber number count ≡ status.Rejected line = sym is ∙ tells in cc),
)

rejected_apart : (said : Status) (number count line : ℕ) → said ≡ status.Rejected line
    → (said ≡ status.NoSuchNumber number count → ⊥) × (said ≡ status.Done → ⊥)
rejected_apart said number count line is = (
  (λ tells. let h : status.Rejected line ≡ status.NoSuchNumber number count = sym is ∙ tells in cc),
  (λ tells. let h : status.Rejected line ≡ status.Done = sym is ∙ tells in cc),
)

pub above_one : (number count other least : ℕ) → status.NoSuchNumber number count ≡ status.NoSuchNumber other least → (number ≡ other) × (count ≡ least)
above_one number count other least same = (cc, cc)

line_one : (line other : ℕ) → status.Rejected line ≡ status.Rejected other → line ≡ other
line_one line other same = cc

-- why a file is not fetched is none of what is said of numbers and certificates
unread_apart : (files : Files) (name : List ℕ) (limit : ℕ) (said : Status) (number count line : ℕ) → FetchStops (Some files) name limit said
    → (said ≡ status.NoSuchNumber number count → ⊥) × (said ≡ status.Done → ⊥) × (said ≡ status.Rejected line → ⊥)
unread_apart files name limit said number count line (fails is) = (
  λ tells. let h : status.ReadFault name ≡ status.NoSuchNumber number count = sym is ∙ tells in cc,
  λ tells. let h : status.ReadFault name ≡ status.Done = sym is ∙ tells in cc,
  λ tells. let h : status.ReadFault name ≡ status.Rejected line = sym is ∙ tells in cc,
)
unread_apart files name limit said number count line (is_longer file holds longer is) = (
  λ tells. let h : status.TooLong name limit ≡ status.NoSuchNumber number count = sym is ∙ tells in cc,
  λ tells. let h : status.TooLong name limit ≡ status.Done = sym is ∙ tells in cc,
  λ tells. let h : status.TooLong name limit ≡ status.Rejected line = sym is ∙ tells in cc,
)

-- ---- over a printed plan

module _ (files : Files) (catalogue : Catalogue) (query : Query) (plan : Plan) (numbers file : List ℕ) (said : Status) (text : List ℕ) where
  abbrev TellsNumber : Type 0
  TellsNumber = (number count : ℕ)
      → (said ≡ status.NoSuchNumber number count) ↔ ((first_above (length plan.atoms) numbers ≡ Some number) × (count ≡ length plan.atoms))

  abbrev TellsAccepted : Type 0
  TellsAccepted = said ≡ status.Done → (set : List Bool) × (bytes : List ℕ) × IsSetOf (length plan.atoms) numbers set
      × HasWithin files file DATA_LIMIT bytes × Certifies catalogue query plan set bytes

  abbrev TellsRejected : Type 0
  TellsRejected = (line : ℕ) → said ≡ status.Rejected line → (set : List Bool) × (bytes : List ℕ) × IsSetOf (length plan.atoms) numbers set
      × HasWithin files file DATA_LIMIT bytes × HasVerdict catalogue query plan set bytes (Some line)

  -- where the numbers name a set, none is refused
  none_above : (set : List Bool) → IsSetOf (length plan.atoms) numbers set → (number count : ℕ) → (said ≡ status.NoSuchNumber number count → ⊥)
      → (said ≡ status.NoSuchNumber number count) ↔ ((first_above (length plan.atoms) numbers ≡ Some number) × (count ≡ length plan.atoms))
  none_above set is_set number count apart =
      ((λ tells. absurd (apart tells)), (λ (above, counted). absurd (none-some number (sym is_set.none_above ∙ above))))

  number_told : IsChecked files catalogue query plan numbers file said text → TellsNumber
  number_told (is_above asked above is line) number count = (
    λ tells. let one = above_one asked (length plan.atoms) number count (sym is ∙ tells) in (above ∙ ap Some one.0, sym one.1),
    λ (other, counted). is ∙ (λ i. status.NoSuchNumber (same_Some asked number (sym above ∙ other) i) (sym counted i)),
  )
  number_told (not_fetched set is_set caused stop line) number count =
      none_above set is_set number count (unread_apart files file DATA_LIMIT said number count 0 stop).0
  number_told (accepts set bytes is_set within certificate is) number count = none_above set is_set number count (done_apart said number count 0 is).0
  number_told (rejects set bytes line is_set within has is text_is) number count =
      none_above set is_set number count (rejected_apart said number count line is).0

  accepted_told : IsChecked files catalogue query plan numbers file said text → TellsAccepted
  accepted_told (is_above asked above is line) done = absurd ((above_apart said asked (length plan.atoms) 0 is).0 done)
  accepted_told (not_fetched set is_set caused stop line) done = absurd ((unread_apart files file DATA_LIMIT said 0 0 0 stop).1 done)
  accepted_told (accepts set bytes is_set within certificate is) done = (set, bytes, is_set, within, certificate)
  accepted_told (rejects set bytes line is_set within has is text_is) done = absurd ((rejected_apart said 0 0 line is).1 done)

  rejected_told : IsChecked files catalogue query plan numbers file said text → TellsRejected
  rejected_told (is_above asked above is line) at tells = absurd ((above_apart said asked (length plan.atoms) at is).1 tells)
  rejected_told (not_fetched set is_set caused stop line) at tells = absurd ((unread_apart files file DATA_LIMIT said 0 0 at stop).2 tells)
  rejected_told (accepts set bytes is_set within certificate is) at tells = absurd ((done_apart said 0 0 at is).1 tells)
  rejected_told (rejects set bytes line is_set within has is text_is) at tells =
      (set, bytes, is_set, within, subst (λ (it : ℕ). HasVerdict catalogue query plan set bytes (Some it)) (line_one line at (sym is ∙ tells)) has)

  line_told : IsChecked files catalogue query plan numbers file said text → ¬ (said ≡ status.Done) → text ≡ line_of said
  line_told (is_above asked above is line) undone = line
  line_told (not_fetched set is_set caused stop line) undone = line
  line_told (accepts set bytes is_set within certificate is) undone = absurd (undone is)
  line_told (rejects set bytes line is_set within has is text_is) undone = text_is

-- ---- the outcomes

module _ (laws : ListingLaws) (checks : VerifyChecksCertificates) (verdicts : VerifySaysVerdicts) (words : List (List ℕ)) (files : Files)
    (catalogue_name query_name numbers file : List ℕ) (catalogue : Catalogue) (query : Query)
    (said : Status) (text : List ℕ) (asks : AsksVerify words catalogue_name query_name numbers file)
    (say : FilesSay files catalogue_name query_name catalogue query) (outcome : Outcome words files said text) where
  opened : (opens_catalogue (Some files) catalogue_name).goes catalogue
  opened = catalogue_opens files catalogue_name catalogue say.says_catalogue

  read : (opens_query (Some files) query_name catalogue).goes query
  read = query_opens files query_name catalogue query say.says_query

  holds : (Fact : Status → List ℕ → Type 0) → SaysAlways (verify_course (Some files) catalogue_name query_name numbers file) Fact → Fact said text
  holds Fact always =
      says_fact (verifies_named (Some files) catalogue_name query_name asks.0 file) Fact said text
      (named_says files catalogue_name query_name asks.0 numbers file asks.1 Fact always)
      (subst (λ (it : List (List ℕ)). Says (course_of it (Some files)) ⊥ said text) asks.2 outcome)

  refusal_tells : IsExactRefusal catalogue query said text → ¬ (HasAnswers catalogue query)
  refusal_tells (clash, ends, said_is, text_is) = laws.unsatisfiable catalogue query clash ends

  verified_exact : IsVerified files catalogue query numbers file said text → IsExactVerify files catalogue query numbers file said text
  verified_exact (clashes clash ends is line) = record {
    refused = ((λ never. (clash, ends, is, line ∙ ap line_of is)), refusal_tells);
    verifies = λ plan planned. absurd (laws.unsatisfiable catalogue query clash ends (laws.satisfiable catalogue query plan planned));
    line = λ undone. line;
  }
  verified_exact (has_plan plan planned checked) = record {
    refused = ((λ never. absurd (never (laws.satisfiable catalogue query plan planned))), refusal_tells);
    verifies = λ any any_planned.
        let is_checked = checked any any_planned in
        record {
          number = number_told files catalogue query any numbers file said text is_checked;
          verdict = λ set bytes verdict is_set within has. holds (SaysVerdict verdict)
              (verdicts files catalogue query any numbers file set bytes verdict is_set within has catalogue_name query_name opened read any_planned);
          accepted = accepted_told files catalogue query any numbers file said text is_checked;
          rejected = rejected_told files catalogue query any numbers file said text is_checked;
        };
    line = line_told files catalogue query plan numbers file said text (checked plan planned);
  }

  verified : IsExactVerify files catalogue query numbers file said text
  verified = verified_exact (holds (IsVerified files catalogue query numbers file)
      (checks files catalogue query numbers file catalogue_name query_name opened read))

pub outcomes_are_verified : ListingLaws → VerifyChecksCertificates → VerifySaysVerdicts → OutcomesAreVerified
outcomes_are_verified laws checks verdicts words files catalogue_name query_name numbers file catalogue query said text asks say outcome =
    verified laws checks verdicts words files catalogue_name query_name numbers file catalogue query said text asks say outcome
