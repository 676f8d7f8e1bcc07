use Rattle.std.proofs.Common.{◌∙◌, Ok, Err, List, ℕ, inl, refl, subst, arith}
use Rattle.std.proofs.lemmas.Result.{err_from_is_err_and}
use Rattle.peer_listing.specs.Listing.{key_line}
use Rattle.peer_stage.specs.declared.outcome.Done.TheVariants as done
use Rattle.peer_stage.specs.declared.outcome.Stop.TheVariants as stop
use Rattle.peer_stage.proofs.Faults.{stop_stands}
use Rattle.peer_stage.proofs.Steps.{shelf_on, noise_on, stops_writing, has_written}
use Rattle.peer_make.specs.Making.{FindsFree, DrawsKey, PutsFile, own_user_key}
use Rattle.peer_make.proofs.making.make_key.Goals as goal

pub returns-in_err-key : goal.returns-in_err-key
returns-in_err-key g c =
    let p = err_from_is_err_and c.from_residual-in_err-key.result c.from_residual-in_err-key.ensures.1 in
    let h = g.H.Shelf.facts c.args.shelf.now in
    let h1 = g.H.Shelf.facts c.find_free.new.shelf in
    let n = g.N.Noise.facts c.args.noise.now in
    let n1 = g.N.Noise.facts c.draw_key.new.noise in
    let o = g.O.Sink.facts c.args.output.now in
    rw (p.1, p.2) (λ others. shelf_on (FindsFree c.args.name) _ (record others { output = o; noise = n }) h h1 (record others { shelf = h1; output = o; noise = n1 }) c.in_ok-name.name (Err c.in_err-key.field-0.0)
    c.in_ok-name.ensures.finds c.in_ok-name.ensures.read_faults c.find_free.ensures.write_faults
    (inl (record { does = c.in_err-key.ensures.draws; faults = c.in_err-key.ensures.faults; others = refl })))

pub returns-in_err-line : goal.returns-in_err-line
returns-in_err-line g c =
    let p = err_from_is_err_and c.from_residual-in_err-line.result c.from_residual-in_err-line.ensures.1 in
    let h = g.H.Shelf.facts c.args.shelf.now in
    let h1 = g.H.Shelf.facts c.find_free.new.shelf in
    let n = g.N.Noise.facts c.args.noise.now in
    let n1 = g.N.Noise.facts c.draw_key.new.noise in
    let o = g.O.Sink.facts c.args.output.now in
    rw (p.1, p.2) (λ others. shelf_on (FindsFree c.args.name) _ (record others { output = o; noise = n }) h h1 (record others { shelf = h1; output = o; noise = n1 }) c.in_ok-name.name (Err stop.NoMemory)
    c.in_ok-name.ensures.finds c.in_ok-name.ensures.read_faults c.find_free.ensures.write_faults
    (noise_on (DrawsKey c.args.height) _ (record others { shelf = h1; output = o }) n n1 (record others { shelf = h1; output = o; noise = n1 }) c.in_ok-key.key (Err stop.NoMemory)
    c.in_ok-key.ensures.draws c.in_ok-key.ensures.faults
    (inl (record { does = refl; read_faults = omega arith; write_faults = omega arith; others = refl }))))

pub returns-in_err-put_file : goal.returns-in_err-put_file
returns-in_err-put_file g c =
    let p = err_from_is_err_and c.from_residual-in_err-put_file.result c.from_residual-in_err-put_file.ensures.1 in
    let h = g.H.Shelf.facts c.args.shelf.now in
    let h1 = g.H.Shelf.facts c.find_free.new.shelf in
    let h2 = g.H.Shelf.facts c.put_file.new.shelf in
    let n = g.N.Noise.facts c.args.noise.now in
    let n1 = g.N.Noise.facts c.draw_key.new.noise in
    let o = g.O.Sink.facts c.args.output.now in
    let e = c.in_err-put_file.field-0.0 in
    let puts = subst (λ (name : List ℕ). PutsFile name c.in_ok-key.key h1 h2 (Err e)) c.as_str.ensures.value c.in_err-put_file.ensures.puts in
    rw (p.1, p.2) (λ others. shelf_on (FindsFree c.args.name) _ (record others { output = o; noise = n }) h h1 (record others { shelf = h2; output = o; noise = n1 }) c.in_ok-name.name (Err e)
    c.in_ok-name.ensures.finds c.in_ok-name.ensures.read_faults c.find_free.ensures.write_faults
    (noise_on (DrawsKey c.args.height) _ (record others { shelf = h1; output = o }) n n1 (record others { shelf = h2; output = o; noise = n1 }) c.in_ok-key.key (Err e)
    c.in_ok-key.ensures.draws c.in_ok-key.ensures.faults
    (inl (record { does = puts; read_faults = stop_stands h1.read_faults h2.read_faults e c.put_file.ensures.read_faults; write_faults = c.in_err-put_file.ensures.write_faults; others = refl }))))

pub returns-in_err-write_output : goal.returns-in_err-write_output
returns-in_err-write_output g c =
    let p = err_from_is_err_and c.from_residual-in_err-write_output.result c.from_residual-in_err-write_output.ensures.1 in
    let h = g.H.Shelf.facts c.args.shelf.now in
    let h1 = g.H.Shelf.facts c.find_free.new.shelf in
    let h2 = g.H.Shelf.facts c.put_file.new.shelf in
    let n = g.N.Noise.facts c.args.noise.now in
    let n1 = g.N.Noise.facts c.draw_key.new.noise in
    let o = g.O.Sink.facts c.args.output.now in
    let o1 = g.O.Sink.facts c.write_output.new.output in
    let e = c.in_err-write_output.field-0.0 in
    let puts = subst (λ (name : List ℕ). PutsFile name c.in_ok-key.key h1 h2 (Ok tt)) c.as_str.ensures.value c.in_ok-put_file.ensures.puts in
    let line = key_line (own_user_key c.in_ok-key.key) in
    rw (p.1, p.2) (λ others. shelf_on (FindsFree c.args.name) _ (record others { output = o; noise = n }) h h1 (record others { shelf = h2; output = o1; noise = n1 }) c.in_ok-name.name (Err e)
    c.in_ok-name.ensures.finds c.in_ok-name.ensures.read_faults c.find_free.ensures.write_faults
    (noise_on (DrawsKey c.args.height) _ (record others { shelf = h1; output = o }) n n1 (record others { shelf = h2; output = o1; noise = n1 }) c.in_ok-key.key (Err e)
    c.in_ok-key.ensures.draws c.in_ok-key.ensures.faults
    (shelf_on (PutsFile _ c.in_ok-key.key) _ (record others { output = o; noise = n1 }) h1 h2 (record others { shelf = h2; output = o1; noise = n1 }) tt (Err e)
    puts c.put_file.ensures.read_faults c.in_ok-put_file.ensures.write_faults
    (record { does = stops_writing line c.deref.result.now done.Made o o1 e (c.deref.ensures.value ∙ c.in_ok-line.ensures) c.in_err-write_output.ensures.writes; faults = c.in_err-write_output.ensures.faults; others = refl }))))

pub returns : goal.returns
returns g c =
    let h = g.H.Shelf.facts c.args.shelf.now in
    let h1 = g.H.Shelf.facts c.find_free.new.shelf in
    let h2 = g.H.Shelf.facts c.put_file.new.shelf in
    let n = g.N.Noise.facts c.args.noise.now in
    let n1 = g.N.Noise.facts c.draw_key.new.noise in
    let o = g.O.Sink.facts c.args.output.now in
    let o1 = g.O.Sink.facts c.write_output.new.output in
    let puts = subst (λ (name : List ℕ). PutsFile name c.in_ok-key.key h1 h2 (Ok tt)) c.as_str.ensures.value c.in_ok-put_file.ensures.puts in
    let line = key_line (own_user_key c.in_ok-key.key) in
    λ others. shelf_on (FindsFree c.args.name) _ (record others { output = o; noise = n }) h h1 (record others { shelf = h2; output = o1; noise = n1 }) c.in_ok-name.name (Ok done.Made)
    c.in_ok-name.ensures.finds c.in_ok-name.ensures.read_faults c.find_free.ensures.write_faults
    (noise_on (DrawsKey c.args.height) _ (record others { shelf = h1; output = o }) n n1 (record others { shelf = h2; output = o1; noise = n1 }) c.in_ok-key.key (Ok done.Made)
    c.in_ok-key.ensures.draws c.in_ok-key.ensures.faults
    (shelf_on (PutsFile _ c.in_ok-key.key) _ (record others { output = o; noise = n1 }) h1 h2 (record others { shelf = h2; output = o1; noise = n1 }) tt (Ok done.Made)
    puts c.put_file.ensures.read_faults c.in_ok-put_file.ensures.write_faults
    (record { does = has_written line c.deref.result.now done.Made o o1 (c.deref.ensures.value ∙ c.in_ok-line.ensures) c.in_ok-write_output.ensures.writes; faults = c.in_ok-write_output.ensures.faults; others = refl })))
