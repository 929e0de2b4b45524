use Rattle.std.proofs.lemmas.Str.{is_utf8-from_IsUtf8}
use Rattle.esto_stores.proofs.CodedLemmas.{code_error}
use Rattle.esto_stores.proofs.coded_rows.push_code.Goals as goal

pub returns-in-Ok-push-clause-put : goal.returns-in-Ok-push-clause-put
returns-in-Ok-push-clause-put c = ((c.in-Ok.code, c.in-Ok-push.ensures.ok, c.in-Ok.ensures.found), is_utf8-from_IsUtf8 _ c.in-Ok.ensures.utf8)

pub returns-in-Err-clause-put : goal.returns-in-Err-clause-put
returns-in-Err-clause-put c = code_error _ c.args.row.now c.args.row.now c.intern.new.self _ c.in-Err.ensures.fault
