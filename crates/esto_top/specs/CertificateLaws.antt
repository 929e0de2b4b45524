-- What laws on the courses of the commands on certificates say.
use Rattle.std.specs.Prelude.{◌≡◌, ℕ, Bool, List, length, slice_get, Option, Some, None, codes}
use Rattle.esto_mapping.specs.declared.catalogue.Catalogue.{Catalogue}
use Rattle.esto_cert.specs.Showing.{HoldsDerivationsFor}
use Rattle.esto_chase_laws.specs.declared.clash.Clash.{Clash}
use Rattle.esto_constraint.specs.Constraints.{rules_of}
use Rattle.esto_course.specs.Course.{Course}
use Rattle.esto_list.specs.declared.listing.Listed.{Listed}
use Rattle.esto_ports.specs.Files.{Files}
use Rattle.esto_query.specs.Making.{query_of}
use Rattle.esto_query.specs.declared.query.Query.{Query}
use Rattle.esto_views.specs.Fragments.{views_of}
use Rattle.esto_views.specs.Plans.{plan_query}
use Rattle.esto_views.specs.declared.plan.Plan.{Plan}
use Rattle.esto_views.specs.Contained.{IsSafelyContained}
use Rattle.esto_status.specs.Calm.{AgreeCalmly, IsOne, SaysAlways}
use Rattle.esto_status.specs.Answers.{IsCaused}
use Rattle.esto_status.specs.Fetch.{FetchStops, HasWithin}
use Rattle.esto_status.specs.Line.{line_of}
use Rattle.esto_opening.specs.Opening.{opens_catalogue, opens_query}
use Rattle.esto_status.specs.declared.reply.Reply.{Reply}
use Rattle.esto_status.specs.declared.reply.Reply.TheVariants.{Done}
use Rattle.esto_status.specs.declared.status.Status.{Status}
use Rattle.esto_status.specs.declared.status.Status.TheVariants as status
use Rattle.esto_rewriting.specs.Choice.{HasNoPlace, IsPlace}
use Rattle.esto_rewriting.specs.Listing.{IsClash, IsListOf, IsPlanned}
use Rattle.esto_top.specs.Explain.{explain_course}
use Rattle.esto_rewriting.specs.Verify.{first_above, HasVerdict, IsSetOf}
use Rattle.esto_top.specs.Verify.{verify_course}
use Rattle.esto_status.specs.declared.limits.TheConstants.{DATA_LIMIT}

-- ---- one outcome

-- The course of `verify` over the same files has one reply or one refusal, where no fetch is at a fault.
abbrev pub VerifyIsOne : Type 0
VerifyIsOne =
    (files : Files) (catalogue_name query_name numbers file : List ℕ) → IsOne (verify_course (Some files) catalogue_name query_name numbers file)

-- Both replies are Done, each with a text.
abbrev pub AreDone : Reply → Reply → Type 0
AreDone reply other = ((text : List ℕ) × (reply ≡ Done text)) × ((text : List ℕ) × (other ≡ Done text))

-- The course over the files has one status where no fetch is at a fault: it is Done with some text, or it has one refusal.
abbrev pub HasOneStatus : Course Status Reply → Type 0
HasOneStatus course = AgreeCalmly AreDone course course

-- The course of `explain` over the same files has one status.
abbrev pub ExplainHasOneStatus : Type 0
ExplainHasOneStatus =
    (files : Files) (catalogue_name query_name : List ℕ) (number : ℕ) → HasOneStatus (explain_course (Some files) catalogue_name query_name number)

-- ---- certificates that are accepted

-- The bytes are a certificate that is accepted for the set of the plan's atoms. The set has a candidate, which is safe and contained in the query under the
-- catalogue's rules; and the bytes hold the derivations of a match of the query, from the set's atoms alone.
pub record Certifies (catalogue : Catalogue) (query : Query) (plan : Plan) (set : List Bool) (bytes : List ℕ) : Type 0 where
  pub accepted : HasVerdict catalogue query plan set bytes None
  pub contained : IsSafelyContained (rules_of catalogue.rules) (views_of catalogue.fragments) (query_of query) (plan_query plan) set
  pub derived : HoldsDerivationsFor plan catalogue.fragments set catalogue.rules query bytes

-- ---- what `verify` says

-- Let the files say a catalogue and a query over it that has a printed plan: then the fact is said of `verify` for the numbers and the certificate's file.
abbrev pub IsSaid : Files → Catalogue → Query → Plan → List ℕ → List ℕ → (Status → List ℕ → Type 0) → Type 0
IsSaid files catalogue query plan numbers file Fact =
    (catalogue_name query_name : List ℕ) → (opens_catalogue (Some files) catalogue_name).goes catalogue
    → (opens_query (Some files) query_name catalogue).goes query → IsPlanned catalogue query plan
    → SaysAlways (verify_course (Some files) catalogue_name query_name numbers file) Fact

-- The status and the text of a verdict: Done and that the certificate is accepted, or Rejected with the line.
abbrev pub SaysVerdict : Option ℕ → Status → List ℕ → Type 0
SaysVerdict None said text = (said ≡ status.Done) × (text ≡ codes "accepted\n")
SaysVerdict (Some line) said text = said ≡ status.Rejected line

-- Where the numbers name a set, and the certificate is within its limit, its verdict for the set is said.
abbrev pub VerifySaysVerdicts : Type 0
VerifySaysVerdicts =
    (files : Files) (catalogue : Catalogue) (query : Query) (plan : Plan) (numbers file : List ℕ) (set : List Bool) (bytes : List ℕ) (verdict : Option ℕ)
    → IsSetOf (length plan.atoms) numbers set → HasWithin files file DATA_LIMIT bytes → HasVerdict catalogue query plan set bytes verdict
    → IsSaid files catalogue query plan numbers file (SaysVerdict verdict)

-- What `verify` says over a printed plan: that the first number above how many atoms the plan has is refused, with how many they are; or, where the numbers
-- name a set, why the certificate is not fetched; or that it is accepted, and certifies the set; or the line at which it is rejected. A refusal says its line.
pub data IsChecked (files : Files) (catalogue : Catalogue) (query : Query) (plan : Plan) (numbers file : List ℕ) (said : Status) (text : List ℕ)
    : Type 0 where
  is_above : (number : ℕ) → first_above (length plan.atoms) numbers ≡ Some number → said ≡ status.NoSuchNumber number (length plan.atoms)
      → text ≡ line_of said → IsChecked files catalogue query plan numbers file said text
  not_fetched : (set : List Bool) → IsSetOf (length plan.atoms) numbers set → IsCaused ⊥ said → FetchStops (Some files) file DATA_LIMIT said
      → text ≡ line_of said → IsChecked files catalogue query plan numbers file said text
  accepts : (set : List Bool) (bytes : List ℕ) → IsSetOf (length plan.atoms) numbers set → HasWithin files file DATA_LIMIT bytes
      → Certifies catalogue query plan set bytes → said ≡ status.Done → IsChecked files catalogue query plan numbers file said text
  rejects : (set : List Bool) (bytes : List ℕ) (line : ℕ) → IsSetOf (length plan.atoms) numbers set → HasWithin files file DATA_LIMIT bytes
      → HasVerdict catalogue query plan set bytes (Some line) → said ≡ status.Rejected line → text ≡ line_of said
      → IsChecked files catalogue query plan numbers file said text

-- What `verify` says: the clash at which the query's run ends; or, where the query has a printed plan, what is said over each such plan.
pub data IsVerified (files : Files) (catalogue : Catalogue) (query : Query) (numbers file : List ℕ) (said : Status) (text : List ℕ) : Type 0 where
  clashes : (clash : Clash) → IsClash catalogue query clash → said ≡ status.Unsatisfiable clash → text ≡ line_of said
      → IsVerified files catalogue query numbers file said text
  has_plan : (plan : Plan) → IsPlanned catalogue query plan
      → ((any : Plan) → IsPlanned catalogue query any → IsChecked files catalogue query any numbers file said text)
      → IsVerified files catalogue query numbers file said text

-- So it is where the files say a catalogue and a query over it.
abbrev pub VerifyChecksCertificates : Type 0
VerifyChecksCertificates =
    (files : Files) (catalogue : Catalogue) (query : Query) (numbers file : List ℕ) (catalogue_name query_name : List ℕ)
    → (opens_catalogue (Some files) catalogue_name).goes catalogue → (opens_query (Some files) query_name catalogue).goes query
    → SaysAlways (verify_course (Some files) catalogue_name query_name numbers file) (IsVerified files catalogue query numbers file)

-- ---- what `explain` says

-- The bytes are a certificate that is accepted for the set, over whichever printed plan of the query.
abbrev pub CertifiesOverPlans : Catalogue → Query → List Bool → List ℕ → Type 0
CertifiesOverPlans catalogue query set bytes = (plan : Plan) → IsPlanned catalogue query plan → Certifies catalogue query plan set bytes

-- What `explain` says for a number of the list: the clash at which the query's run ends; or why the list of the query's plan has no set of the number; or Done,
-- with a certificate that is accepted for the set of the number. A refusal says its line.
pub data IsExplained (catalogue : Catalogue) (query : Query) (number : ℕ) (said : Status) (text : List ℕ) : Type 0 where
  clashes : (clash : Clash) → IsClash catalogue query clash → said ≡ status.Unsatisfiable clash → text ≡ line_of said
      → IsExplained catalogue query number said text
  has_no_set : (plan : Plan) (items : List Listed) → IsPlanned catalogue query plan → IsListOf catalogue query plan items
      → HasNoPlace items (Some number) said → text ≡ line_of said → IsExplained catalogue query number said text
  explains : (plan : Plan) (items : List Listed) (place : ℕ) (item : Listed) → IsPlanned catalogue query plan → IsListOf catalogue query plan items
      → IsPlace items (Some number) place → slice_get items place ≡ Some item → said ≡ status.Done → CertifiesOverPlans catalogue query item.set text
      → IsExplained catalogue query number said text

-- So it is where the files say a catalogue and a query over it.
abbrev pub ExplainSaysCertificates : Type 0
ExplainSaysCertificates =
    (files : Files) (catalogue : Catalogue) (query : Query) (number : ℕ) (catalogue_name query_name : List ℕ)
    → (opens_catalogue (Some files) catalogue_name).goes catalogue → (opens_query (Some files) query_name catalogue).goes query
    → SaysAlways (explain_course (Some files) catalogue_name query_name number) (IsExplained catalogue query number)
