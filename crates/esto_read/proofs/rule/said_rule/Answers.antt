use Rattle.std.proofs.Common.{ap}
use Rattle.std.specs.Prelude.{map}
use Rattle.std.proofs.lemmas.Result.{IfErr-weaker, IfOk-weaker, err_from_is_err_and}
use Rattle.esto_query.specs.Schemas.{arities_of}
use Rattle.esto_text.specs.Trees.{Items, Equality}
use Rattle.esto_text.specs.View.{item_of, head_of, constraint_of}
use Rattle.esto_read.proofs.RuleLemmas.{name_is_term, head_stands, tuple_parts, equality_parts, denial_parts, tuple_said, equality_said, denial_said}
use Rattle.esto_read.proofs.RuleLemmas.{body_error, head_error, sides_error}
use Rattle.esto_read.proofs.rule.said_rule.Goals as goal

-- ---- where an error is handed on

pub returns-in_err-atoms : goal.returns-in_err-atoms
returns-in_err-atoms c =
    let p = err_from_is_err_and c.from_residual.result c.from_residual.ensures.1 in
    rw (p.1, p.2) (record {
      said = tt;
      over = tt;
      error = body_error c.args.words.now (arities_of c.args.schema.now) c.args.bytes.now (constraint_of c.args.tree.now) _
          (rw c.items.ensures at c.in_err-atoms.ensures.err);
    })

pub returns-in_err-head-in-Items : goal.returns-in_err-head-in-Items
returns-in_err-head-in-Items c =
    let p = err_from_is_err_and c.from_residual-in_err-head-in-Items.result c.from_residual-in_err-head-in-Items.ensures.1 in
    rw (p.1, p.2) (record {
      said = tt;
      over = tt;
      error = head_error c.args.words.now (arities_of c.args.schema.now) c.args.bytes.now (constraint_of c.args.tree.now)
          (rw c.items.ensures at c.in_ok-atoms.ensures.fits)
          (map item_of c.in-Items.items) (ap head_of c.in-Items.is) _ (rw c.items-in-Items.ensures at c.in_err-head-in-Items.ensures.err);
    })

-- ---- a tuple rule

pub tuple_rule-requires : goal.tuple_rule-requires
tuple_rule-requires c =
    tuple_parts c.requires.text.0 c.args.words.now (arities_of c.args.schema.now) c.args.bytes.now (constraint_of c.args.tree.now)
    c.requires.text.1 c.requires.stands c.requires.relations (map item_of c.in-Items.items) (ap head_of c.in-Items.is)
    c.in_ok-atoms.atoms c.in_ok-head-in-Items.head c.body-in-Items.new.names (record {
      between = c.body.new.names;
      body_atoms = rw (c.new-names.ensures, c.items.ensures) at c.in_ok-atoms.ensures.ok;
      body_fits = rw c.items.ensures at c.in_ok-atoms.ensures.fits;
      head_atoms = rw c.items-in-Items.ensures at c.in_ok-head-in-Items.ensures.ok;
      head_fits = rw c.items-in-Items.ensures at c.in_ok-head-in-Items.ensures.fits;
    })

pub returns-in_ok-head-in-Items-clause-said : goal.returns-in_ok-head-in-Items-clause-said
returns-in_ok-head-in-Items-clause-said c =
    tuple_said c.args.words.now (arities_of c.args.schema.now) c.args.bytes.now (constraint_of c.args.tree.now)
    (map item_of c.in-Items.items) c.tuple_rule.result
    c.in_ok-atoms.atoms c.in_ok-head-in-Items.head c.body-in-Items.new.names c.tuple_rule.ensures.made (ap head_of c.in-Items.is) (record {
      between = c.body.new.names;
      body_atoms = rw (c.new-names.ensures, c.items.ensures) at c.in_ok-atoms.ensures.ok;
      body_fits = rw c.items.ensures at c.in_ok-atoms.ensures.fits;
      head_atoms = rw c.items-in-Items.ensures at c.in_ok-head-in-Items.ensures.ok;
      head_fits = rw c.items-in-Items.ensures at c.in_ok-head-in-Items.ensures.fits;
    })

-- ---- an equality rule

pub said_equality-requires-clause-parts : goal.said_equality-requires-clause-parts
said_equality-requires-clause-parts c = λ one other after sides fixed.
    equality_parts c.requires.text.0 c.args.words.now (arities_of c.args.schema.now) c.args.bytes.now (constraint_of c.args.tree.now)
    c.requires.text.1 c.requires.stands c.requires.relations c.in-Equality.left c.in-Equality.right (ap head_of c.in-Equality.is)
    c.in_ok-atoms.atoms one other after (record {
      between = c.body.new.names;
      body_atoms = rw (c.new-names.ensures, c.items.ensures) at c.in_ok-atoms.ensures.ok;
      body_fits = rw c.items.ensures at c.in_ok-atoms.ensures.fits;
      sides = sides;
    })
    fixed

pub returns-in-Equality-clause-said : goal.returns-in-Equality-clause-said
returns-in-Equality-clause-said c =
    IfOk-weaker c.said_equality.result _ _
    (λ rule (one, other, after, sides, made).
    equality_said c.args.words.now (arities_of c.args.schema.now) c.args.bytes.now (constraint_of c.args.tree.now)
    c.in-Equality.left c.in-Equality.right rule c.in_ok-atoms.atoms one other after made (ap head_of c.in-Equality.is) (record {
      between = c.body.new.names;
      body_atoms = rw (c.new-names.ensures, c.items.ensures) at c.in_ok-atoms.ensures.ok;
      body_fits = rw c.items.ensures at c.in_ok-atoms.ensures.fits;
      sides = sides;
    }))
    c.said_equality.ensures.said

pub returns-in-Equality-clause-error : goal.returns-in-Equality-clause-error
returns-in-Equality-clause-error c =
    IfErr-weaker c.said_equality.result _ _
    (sides_error c.args.words.now (arities_of c.args.schema.now) c.args.bytes.now (constraint_of c.args.tree.now)
    (rw c.items.ensures at c.in_ok-atoms.ensures.fits) c.in-Equality.left c.in-Equality.right c.in_ok-atoms.atoms c.body.new.names
    (ap head_of c.in-Equality.is) (rw (c.new-names.ensures, c.items.ensures) at c.in_ok-atoms.ensures.ok))
    c.said_equality.ensures.error

-- ---- a denial

pub denial-requires : goal.denial-requires
denial-requires c =
    denial_parts c.requires.text.0 c.args.words.now (arities_of c.args.schema.now) c.args.bytes.now (constraint_of c.args.tree.now)
    c.requires.text.1 c.requires.stands c.requires.relations c.in_ok-atoms.atoms c.body.new.names (record {
      body_atoms = rw (c.new-names.ensures, c.items.ensures) at c.in_ok-atoms.ensures.ok;
      body_fits = rw c.items.ensures at c.in_ok-atoms.ensures.fits;
    })

pub returns-in-Never-clause-said : goal.returns-in-Never-clause-said
returns-in-Never-clause-said c =
    denial_said c.args.words.now (arities_of c.args.schema.now) c.args.bytes.now (constraint_of c.args.tree.now)
    c.denial.result c.in_ok-atoms.atoms c.body.new.names c.denial.ensures.made (ap head_of c.in-Never.is) (record {
      body_atoms = rw (c.new-names.ensures, c.items.ensures) at c.in_ok-atoms.ensures.ok;
      body_fits = rw c.items.ensures at c.in_ok-atoms.ensures.fits;
    })

-- ---- what the parts require

pub body-requires-clause-utf8 : goal.body-requires-clause-utf8
body-requires-clause-utf8 c = c.requires.text.1.1.0

pub body-requires-clause-stand : goal.body-requires-clause-stand
body-requires-clause-stand c = rw c.items.ensures c.requires.stands.0

pub body-requires-clause-relations : goal.body-requires-clause-relations
body-requires-clause-relations c = c.requires.relations

pub body-requires-in-Items-clause-utf8 : goal.body-requires-in-Items-clause-utf8
body-requires-in-Items-clause-utf8 c = c.requires.text.1.1.0

pub body-requires-in-Items-clause-stand : goal.body-requires-in-Items-clause-stand
body-requires-in-Items-clause-stand c =
    rw c.items-in-Items.ensures (head_stands c.args.bytes.now (constraint_of c.args.tree.now) c.requires.stands (Items (map item_of c.in-Items.items))
    (ap head_of c.in-Items.is))

pub body-requires-in-Items-clause-relations : goal.body-requires-in-Items-clause-relations
body-requires-in-Items-clause-relations c = c.requires.relations

pub said_equality-requires-clause-utf8 : goal.said_equality-requires-clause-utf8
said_equality-requires-clause-utf8 c = c.requires.text.1.1.0

pub said_equality-requires-clause-left : goal.said_equality-requires-clause-left
said_equality-requires-clause-left c =
    name_is_term c.args.bytes.now c.in-Equality.left (head_stands c.args.bytes.now (constraint_of c.args.tree.now) c.requires.stands
    (Equality c.in-Equality.left c.in-Equality.right) (ap head_of c.in-Equality.is)).0

pub said_equality-requires-clause-right : goal.said_equality-requires-clause-right
said_equality-requires-clause-right c =
    (head_stands c.args.bytes.now (constraint_of c.args.tree.now) c.requires.stands
    (Equality c.in-Equality.left c.in-Equality.right) (ap head_of c.in-Equality.is)).1

-- ---- that the rules are over the schema

pub returns-in_ok-head-in-Items-clause-over : goal.returns-in_ok-head-in-Items-clause-over
returns-in_ok-head-in-Items-clause-over c = c.tuple_rule.ensures.over

pub returns-in-Equality-clause-over : goal.returns-in-Equality-clause-over
returns-in-Equality-clause-over c = c.said_equality.ensures.over

pub returns-in-Never-clause-over : goal.returns-in-Never-clause-over
returns-in-Never-clause-over c = c.denial.ensures.over
