-- The laws of the commands over rows.
use Rattle.std.proofs.Common.{◌≡◌, ℕ, inl, inr, List, [], ◌++◌, Option, Some, None, sym, ap, ◌∙◌, subst, append_assoc, arith}
use Rattle.std.specs.List.{flat_map}
use Rattle.std.specs.Prelude.{Err}
use Rattle.std.specs.Io.KnownBytes.{Consumes}
use Rattle.willow_outside.specs.Counts.{Rose}
use Rattle.willow_outside.specs.Facts.{SourceFacts}
use Rattle.cap_codec.specs.Rows.{RawValue, frame, AreFrames}
use Rattle.cap_codec.specs.Streams.{FramesStopAt}
use Rattle.cap_codec.proofs.Frames.{never_both}
use Rattle.peer_image.specs.ImageReading.{IsImage, IsWrong, raw_rows}
use Rattle.peer_image.specs.Order.{order_refusal}
use Rattle.peer_image.specs.declared.refusal.ImageRefusal.{ImageRefusal}
use Rattle.peer_image.proofs.Stops.{one_image}
use Rattle.peer_image.proofs.Stops as images
use Rattle.peer_stage.specs.World.{World}
use Rattle.peer_stage.specs.Deed.{IsLawful}
use Rattle.peer_stage.specs.Inputs.{HasInput}
use Rattle.peer_stage.specs.Stages.{IsReadWhole}
use Rattle.peer_stage.specs.Steps.{OnInput}
use Rattle.peer_stage.specs.declared.stage.TheConstants.{INPUT_LIMIT}
use Rattle.peer_stage.specs.declared.outcome.Done.TheVariants as done
use Rattle.peer_stage.specs.declared.outcome.Stop.{Stop}
use Rattle.peer_stage.specs.declared.outcome.Stop.TheVariants as stop
use Rattle.peer_stage.proofs.Ends.{IsCondition}
use Rattle.peer_stage.proofs.Inputs.{not_too_far, is_all}
use Rattle.peer_stage.proofs.Owing.{Owes, then_owes, writes_owe, input_counts, input_unfailed, input_lasts, output_lasts, then_local, writes_local, lawful}
use Rattle.peer_rows.specs.Logged.{FitsLog, PassesLog}
use Rattle.peer_rows.specs.Join.{BeginNoFrames, JoinsInput, StopsInput, IsBadStream, IsWrongStream, IsFullStream}
use Rattle.peer_rows.specs.Show.{ShowsInput, IsBadImage, IsReadMisordered, IsReadFull}
use Rattle.peer_rows.specs.Deeds.{CanJoin, CanShow, join_deed, show_deed, gen_deed}
use Rattle.peer_rows.proofs.Offered.{PassesLog-longer}
use Rattle.peer_rows.proofs.RawStreams.{rows_in_front}

-- a read or a write failed
abbrev Reads : World → World → Type 0
Reads old new = Rose old.input.faults new.input.faults

abbrev Wrote : World → World → Type 0
Wrote old new = Rose old.output.faults new.output.faults

-- ---- join

-- what is taken of an input that tells its bytes is a front of them
front_taken : (left left' : Option (List ℕ)) (had taken : List ℕ) → left ≡ Some had → Consumes left left' taken → (behind : List ℕ) × (taken ++ behind ≡ had)
front_taken (Some xs) (Some ys) had taken told is =
    let same : xs ≡ had = cc in
    (ys, sym is ∙ same)
front_taken (Some xs) None had taken told is = absurd is
front_taken None left' had taken told is = absurd cc

-- an input that has the frames of rows, for which there is room behind those had before, does not stop the reading
module _ (i i' : SourceFacts) (bytes : List ℕ) (input : HasInput i bytes) (rows : List RawValue) (frames : AreFrames bytes rows) where
  no_wrong_stream : (at : ℕ) → IsWrongStream i i' at → ⊥
  no_wrong_stream at bad = elim bad.cause [ inl whole ↦ ends whole | inr begin ↦ begins begin ]
    where
      ends : IsReadWhole INPUT_LIMIT i i' bad.bytes → ⊥
      ends whole = never_both bytes at rows (subst (λ (b : List ℕ). FramesStopAt b at) (is_all i i' bytes bad.bytes input whole) bad.wrong) frames

      begins : BeginNoFrames bad.bytes → ⊥
      begins begin =
          let front = front_taken i.left i'.left bytes bad.bytes input.told bad.taken in
          begin front.0 rows (subst (λ (b : List ℕ). AreFrames b rows) (sym front.1) frames)

  module _ (n : List ℕ) (had : List RawValue) (fits : FitsLog n (had ++ rows)) where
    no_bad_stream : (at : ℕ) → IsBadStream n had i i' at → ⊥
    no_bad_stream at (inl long) = not_too_far i i' bytes long.0.bytes input long.0.too_far
    no_bad_stream at (inr wrong) = no_wrong_stream at wrong

    no_full : IsFullStream n had i i' → ⊥
    no_full full =
        let whole = full.not_wrong.frames in
        let left = full.not_wrong.left in
        let front = front_taken i.left i'.left bytes full.bytes input.told full.taken in
        let parts = sym (append_assoc (flat_map frame full.rows) left front.0) ∙ ap (λ (l : List ℕ). l ++ front.0) (sym whole.parts) ∙ front.1 ∙ frames.spelled in
        let more = rows_in_front full.rows rows (left ++ front.0) whole.fit frames.fit parts in
        let all = append_assoc had full.rows more.0 ∙ ap (λ (l : List RawValue). had ++ l) more.1 in
        let passes = subst (λ (l : List RawValue). PassesLog n l) all (PassesLog-longer n (had ++ full.rows) more.0 full.passes) in
        omega (arith, passes, fits)

    pub input_stops : (e : Stop) → IsCondition e → StopsInput n had i i' e → ⊥
    input_stops (stop.BadInput from at) condition s = no_bad_stream at s.0
    input_stops stop.LogFull condition s = no_full s
    input_stops stop.ReadFault condition s = condition
    input_stops stop.NoMemory condition s = condition
    input_stops e condition s = s

joining_owes : (n : List ℕ) → Owes Reads Wrote (λ old. CanJoin n old.input) (λ x new. Unit {0}) (OnInput (JoinsInput n))
joining_owes n =
    record {
      counts = input_counts (JoinsInput n);
      unfailed = input_unfailed (JoinsInput n);
      read_fault = λ old new s. s.does.1.fault;
      write_fault = λ old new s. absurd s.does;
      usage = λ old new s. s.does;
      stops = λ old new e can condition s. input_stops old.input new.input can.had can.input can.rows can.frames n [] can.fits_log e condition s.does;
      goes_on = λ old new x can s. tt;
    }

pub join_is_lawful : (n : List ℕ) → IsLawful (join_deed n)
join_is_lawful n =
    lawful (join_deed n) (λ old. CanJoin n old.input) (λ d new. Unit {0}) (λ unbuilt. unbuilt) (λ old new ready. ready)
    (then_local _ _ (λ x. writes_local x.0 (done.Joined x.1) tt))
    (then_owes Reads Wrote (λ old. CanJoin n old.input) (λ x new. Unit {0}) (λ d new. Unit {0}) _ _ input_lasts output_lasts (joining_owes n)
    (λ x. writes_owe Reads Wrote (λ old. Unit {0}) x.0 (done.Joined x.1) (λ old new rose. rose)))

-- ---- show

no_bad_image : (i i' : SourceFacts) (at : ℕ) → CanShow i → IsBadImage i i' at → ⊥
no_bad_image i i' at can (bytes, inl far) = not_too_far i i' can.had bytes can.input far.0
no_bad_image i i' at can (bytes, inr whole) =
    images.never_both can.had can.namespace can.rows at can.is_image (subst (λ (b : List ℕ). IsWrong b at) (is_all i i' can.had bytes can.input whole.0) whole.1)

no_misorder : (i i' : SourceFacts) (refusal : ImageRefusal) → CanShow i → IsReadMisordered i i' refusal → ⊥
no_misorder i i' refusal can (bytes, read, wrong) =
    let image = subst (λ (b : List ℕ). IsImage b wrong.namespace wrong.rows) (is_all i i' can.had bytes can.input read) wrong.is_image in
    let same = (one_image can.had can.namespace wrong.namespace can.rows wrong.rows can.is_image image).1 in
    let none : None ≡ Some refusal = sym can.in_order ∙ ap (λ (rows : List RawValue). order_refusal (raw_rows rows)) same ∙ wrong.refused in
    absurd cc

no_full_image : (i i' : SourceFacts) → CanShow i → IsReadFull i i' → ⊥
no_full_image i i' can (bytes, read, full) =
    let image = subst (λ (b : List ℕ). IsImage b full.namespace full.rows) (is_all i i' can.had bytes can.input read) full.is_image in
    let same = one_image can.had can.namespace full.namespace can.rows full.rows can.is_image image in
    let passes = subst (λ (n : List ℕ). PassesLog n can.rows) (sym same.0) (subst (λ (rows : List RawValue). PassesLog full.namespace rows) (sym same.1) full.passes) in
    omega (arith, passes, can.fits_log)

show_stops : (asked : Option ℕ) (i i' : SourceFacts) (e : Stop) → CanShow i → IsCondition e → ShowsInput asked i i' (Err e) → ⊥
show_stops asked i i' (stop.BadInput from at) can condition s = no_bad_image i i' at can s.0
show_stops asked i i' (stop.NotRising from row) can condition s = no_misorder i i' _ can s.0
show_stops asked i i' (stop.Pruned from row by) can condition s = no_misorder i i' _ can s.0
show_stops asked i i' stop.LogFull can condition s = no_full_image i i' can s
show_stops asked i i' stop.ReadFault can condition s = condition
show_stops asked i i' stop.NoMemory can condition s = condition
show_stops asked i i' e can condition s = s

showing_owes : (asked : Option ℕ) → Owes Reads Wrote (λ old. CanShow old.input) (λ x new. Unit {0}) (OnInput (ShowsInput asked))
showing_owes asked =
    record {
      counts = input_counts (ShowsInput asked);
      unfailed = input_unfailed (ShowsInput asked);
      read_fault = λ old new s. s.does.1.fault;
      write_fault = λ old new s. absurd s.does;
      usage = λ old new s. s.does;
      stops = λ old new e can condition s. show_stops asked old.input new.input e can condition s.does;
      goes_on = λ old new x can s. tt;
    }

pub show_is_lawful : (asked : Option ℕ) → IsLawful (show_deed asked)
show_is_lawful asked =
    lawful (show_deed asked) (λ old. CanShow old.input) (λ d new. Unit {0}) (λ unbuilt. unbuilt) (λ old new ready. ready)
    (then_local _ _ (λ x. writes_local x.0 (done.Shown x.1) tt))
    (then_owes Reads Wrote (λ old. CanShow old.input) (λ x new. Unit {0}) (λ d new. Unit {0}) _ _ input_lasts output_lasts (showing_owes asked)
    (λ x. writes_owe Reads Wrote (λ old. Unit {0}) x.0 (done.Shown x.1) (λ old new rose. rose)))

-- ---- gen

pub gen_is_lawful : (rows : ℕ) → IsLawful (gen_deed rows)
gen_is_lawful rows =
    lawful (gen_deed rows) (λ old. Unit {0}) (λ d new. Unit {0}) (λ unbuilt. unbuilt) (λ old new ready. ready)
    (writes_local _ done.Made tt)
    (writes_owe (λ old new. ⊥) Wrote (λ old. Unit {0}) _ done.Made (λ old new rose. rose))
