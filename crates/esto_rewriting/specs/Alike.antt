-- Over catalogues that say the same, plans, clashes and lists are the same, and are one.
use Rattle.std.specs.Prelude.{◌≡◌, ℕ, List, map, Option}
use Rattle.either.specs.declared.Either.{Either}
use Rattle.either.specs.declared.Either.TheVariants.{Left, Right}
use Rattle.esto_mapping.specs.Catalogues.{AreSame}
use Rattle.esto_mapping.specs.declared.catalogue.Catalogue.{Catalogue}
use Rattle.esto_chase_laws.specs.declared.clash.Clash.{Clash}
use Rattle.esto_list.specs.Items.{HaveOrders, HaveWeights, sets_of}
use Rattle.esto_list.specs.Text.{IsListText}
use Rattle.esto_list.specs.declared.listing.Listed.{Listed}
use Rattle.esto_query.specs.declared.query.Query.{Query}
use Rattle.esto_views.specs.Plans.{plan_query}
use Rattle.esto_views.specs.declared.fragments.FragmentDef.{FragmentDef}
use Rattle.esto_views.specs.declared.plan.Plan.{Plan}
use Rattle.esto_query.specs.Same.{IsSameQuery}
use Rattle.esto_status.specs.Calm.{AgreeCalmly}
use Rattle.esto_rewriting.specs.Listing.{IsClash, IsListing, IsListOf, IsPlanned}
use Rattle.esto_rewriting.specs.Planning.{chooses, ends_query, lists_plan, plans_query}

-- ---- over catalogues that say the same

-- A printed plan over one of two catalogues that say the same is one over the other.
abbrev pub PlanIsMoved : Type 0
PlanIsMoved =
    (catalogue other : Catalogue) (query other_query : Query) (plan : Plan) → AreSame catalogue other → IsSameQuery query other_query
    → IsPlanned other other_query plan → IsPlanned catalogue query plan

-- So is a clash.
abbrev pub ClashIsMoved : Type 0
ClashIsMoved =
    (catalogue other : Catalogue) (query other_query : Query) (clash : Clash) → AreSame catalogue other → IsSameQuery query other_query
    → IsClash other other_query clash → IsClash catalogue query clash

-- So is a list.
abbrev pub ListIsMoved : Type 0
ListIsMoved =
    (catalogue other : Catalogue) (query other_query : Query) (plan : Plan) (items : List Listed) → AreSame catalogue other → IsSameQuery query other_query
    → IsListOf other other_query plan items → IsListOf catalogue query plan items

-- So is its text.
abbrev pub ListingIsMoved : Type 0
ListingIsMoved =
    (catalogue other : Catalogue) (query other_query : Query) (plan : Plan) (text : List ℕ) → AreSame catalogue other → IsSameQuery query other_query
    → IsListing other other_query plan text → IsListing catalogue query plan text

-- ---- plans, lists and places are one

-- Two plans of the same atoms and head, with the same names.
abbrev pub IsSamePlan : Plan → Plan → Type 0
IsSamePlan plan other = (plan_query plan ≡ plan_query other) × (plan.names ≡ other.names)

-- Two plans that are the same, or one clash.
abbrev pub IsSameEnd : Either Plan Clash → Either Plan Clash → Type 0
IsSameEnd (Left plan) (Left other_plan) = IsSamePlan plan other_plan
IsSameEnd (Left plan) (Right clash) = ⊥
IsSameEnd (Right clash) (Left plan) = ⊥
IsSameEnd (Right clash) (Right other_clash) = clash ≡ other_clash

-- A query has one printed plan, or its run ends with one clash.
abbrev pub EndIsOne : Type 0
EndIsOne =
    (catalogue other : Catalogue) (query other_query : Query) → AreSame catalogue other → IsSameQuery query other_query
    → AgreeCalmly IsSameEnd (ends_query catalogue query) (ends_query other other_query)

-- It has one printed plan, or is refused in one way.
abbrev pub PlanIsOne : Type 0
PlanIsOne =
    (catalogue other : Catalogue) (query other_query : Query) → AreSame catalogue other → IsSameQuery query other_query
    → AgreeCalmly IsSamePlan (plans_query catalogue query) (plans_query other other_query)

-- A plan has one list.
abbrev pub ListIsOne : Type 0
ListIsOne =
    (catalogue other : Catalogue) (query other_query : Query) (plan other_plan : Plan) → AreSame catalogue other → IsSameQuery query other_query
    → IsSamePlan plan other_plan → AgreeCalmly ◌≡◌ (lists_plan catalogue query plan) (lists_plan other other_query other_plan)

-- The list has one text.
abbrev pub ListingIsOne : Type 0
ListingIsOne =
    (catalogue other : Catalogue) (query other_query : Query) (plan other_plan : Plan) (text other_text : List ℕ) → AreSame catalogue other
    → IsSameQuery query other_query → IsSamePlan plan other_plan → IsListing catalogue query plan text → IsListing other other_query other_plan other_text
    → text ≡ other_text

-- Items of one plan with the same sets, each with its stated order and its weight, are the same.
abbrev pub ItemsAreOne : Type 0
ItemsAreOne =
    (fragments : List FragmentDef) (plan other_plan : Plan) (items others : List Listed) → plan_query plan ≡ plan_query other_plan
    → sets_of items ≡ sets_of others → HaveOrders plan fragments items → HaveOrders other_plan fragments others
    → HaveWeights plan fragments items → HaveWeights other_plan fragments others → items ≡ others

-- The same items of the same plan have one text over fragments of the same names.
abbrev pub ListTextIsOne : Type 0
ListTextIsOne =
    (fragments others : List FragmentDef) (plan other_plan : Plan) (items : List Listed) (text other_text : List ℕ)
    → map (λ fragment. fragment.name) fragments ≡ map (λ fragment. fragment.name) others → IsSamePlan plan other_plan
    → IsListText fragments plan items text → IsListText others other_plan items other_text → text ≡ other_text

-- A text of theirs over the one fragments is one over the others.
abbrev pub ListTextIsMoved : Type 0
ListTextIsMoved =
    (fragments others : List FragmentDef) (plan : Plan) (items : List Listed) (text : List ℕ)
    → map (λ fragment. fragment.name) fragments ≡ map (λ fragment. fragment.name) others → IsListText others plan items text
    → IsListText fragments plan items text

-- One item of a list is chosen, or none is in one way.
abbrev pub ChoiceIsOne : Type 0
ChoiceIsOne = (items : List Listed) (number : Option ℕ) → AgreeCalmly ◌≡◌ (chooses items number) (chooses items number)
