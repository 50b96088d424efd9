use Rattle.std.specs.Prelude.{◌≡◌, false, IfOk}
use Rattle.mr_model.specs.Replica.{Replica}
use Rattle.mr_model.specs.Tables.{Stands}
use Rattle.mr_part.specs.NextId.{id_given}
use Rattle.mr_part.specs.Parts.{IsPartOf}
use Rattle.mr_part.specs.ScopeOf.{scope_of}
use Rattle.mr_store.specs.Taken.{is_id_taken}
use Rattle.mr_sql.proofs.CallLemmas.{open_then, refused_call, then_call, then_told}
use Rattle.mr_sql.proofs.sql_keeper.SqlKeeperKeeper.load_part.Goals as goal

pub load_part_open-requires : goal.load_part_open-requires
load_part_open-requires g c = record { «open» = open_then g.S.Store c.args.self.now c.confirm.new.self tt c.in-Ok.ensures.quiet }

pub returns-in-Ok-clause-quiet : goal.returns-in-Ok-clause-quiet
returns-in-Ok-clause-quiet g c = then_call g.S.Store c.args.self.now c.confirm.new.self c.load_part_open.new.self tt c.load_part_open.result c.in-Ok.ensures.quiet c.load_part_open.ensures.quiet

pub returns-in-Err-clause-quiet : goal.returns-in-Err-clause-quiet
returns-in-Err-clause-quiet g c = refused_call g.S.Store c.args.self.now c.confirm.new.self c.in-Err.fault c.in-Err.ensures.quiet

pub returns-in-Ok-clause-loaded : goal.returns-in-Ok-clause-loaded
returns-in-Ok-clause-loaded g c =
    then_told g.S.Store (λ t. (a : Replica) → Stands t a → IfOk c.load_part_open.result (λ part. IsPartOf part (scope_of c.args.scope.now) a))
    c.args.self.now c.confirm.new.self c.load_part_open.new.self tt c.load_part_open.result c.in-Ok.ensures.quiet c.load_part_open.ensures.quiet
    c.load_part_open.ensures.loaded

pub returns-in-Ok-clause-free : goal.returns-in-Ok-clause-free
returns-in-Ok-clause-free g c =
    then_told g.S.Store (λ t. IfOk c.load_part_open.result (λ part. is_id_taken (id_given (scope_of c.args.scope.now) part.summary) t ≡ false))
    c.args.self.now c.confirm.new.self c.load_part_open.new.self tt c.load_part_open.result c.in-Ok.ensures.quiet c.load_part_open.ensures.quiet
    c.load_part_open.ensures.free
