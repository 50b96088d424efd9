use Rattle.std.proofs.Common.{◌≡◌, ◌≤◌, ◌++◌, append-nil, ℕ, List, [], length, vec_len, arith, sym, ap, ◌∙◌, subst}
use Rattle.std.specs.Io.KnownBytes.{Consumes}
use Rattle.std.proofs.KnownBytes.{Consumes-nil, Consumes-trans}
use Rattle.std.proofs.lemmas.List.{nil_from_length}
use Rattle.mr_http.proofs.HeadLemmas.{has_none, none_yet, no_head_known, full_no_head, ended_no_head, finds_none}
use Rattle.mr_http.proofs.ReadPieces.{read_none, read_piece_more}
use Rattle.mr_http.specs.Looks.{Awaits, HasNone}
use Rattle.mr_http.proofs.heads.read_head.Goals as goal

pub reading-init : goal.reading-init
reading-init g c =
    let known = g.R.Read.remaining c.args.reader.now in
    let P : List ℕ → Type 0 = λ l. Consumes known known l in
    let len : vec_len c.args.buffer.now ≡ 0 = c.args.buffer.now.ok.0 ∙ ap length c.requires in
    record {
      consumed = subst P (sym c.requires) (Consumes-nil known);
      within = omega (arith, len);
      pieces = read_none (Awaits c.args.kind) c.args.buffer.now.items c.requires;
    }

-- a piece more was read, where a head may still come
pub reading-preserved : goal.reading-preserved
reading-preserved g c =
    let kind = c.args.kind in
    let known = g.R.Read.remaining c.args.reader.now in
    let before = g.R.Read.remaining c.reading.reader in
    let after = g.R.Read.remaining c.read_piece.new.reader in
    let old = c.reading.buffer.items in
    let piece = c.in_ok-read_piece.ensures.bytes in
    let Q : List ℕ → Type 0 = λ l. Consumes known after l in
    let P : List ℕ → Type 0 = λ l. Awaits kind l in
    record {
      consumed = subst Q (sym piece.1) (Consumes-trans known before after old piece.0 c.reading.invariant.consumed piece.4);
      within = omega (arith, c.in_ok-read_piece.ensures.len, piece.3, c.len-room.ensures);
      pieces = read_piece_more (Awaits kind) old piece.0 c.read_piece.new.buffer.items piece.1 (omega (arith, piece.2, c.in_ok-read_piece.ensures.small))
          (subst P c.as_slice.ensures.value c.in-More.ensures);
    }

-- as much as a head may have was read, and there is none
pub returns-then-room-eq0-clause-found : goal.returns-then-room-eq0-clause-found
returns-then-room-eq0-clause-found g c =
    let kind = c.args.kind in
    let bytes = c.as_slice.result.now in
    let same : bytes ≡ c.reading.buffer.items = c.as_slice.ensures.value in
    let full : 8192 ≤ length bytes = omega (arith, c.if-room-eq0.true, c.len-room.ensures, c.as_slice.ensures.len) in
    let known = g.R.Read.remaining c.args.reader.now in
    let left = g.R.Read.remaining c.reading.reader in
    let P : List ℕ → Type 0 = λ l. Consumes known left l in
    finds_none kind known _ (subst (HasNone kind) same (none_yet kind bytes (has_none kind bytes c.in-More.ensures)))
    (no_head_known kind known left bytes (subst P (sym same) c.reading.invariant.consumed)
    (λ ys _. full_no_head kind bytes ys full (has_none kind bytes c.in-More.ensures)))

-- the input has ended, and there is no head
pub returns-then-branch-eq0-clause-found : goal.returns-then-branch-eq0-clause-found
returns-then-branch-eq0-clause-found g c =
    let kind = c.args.kind in
    let bytes = c.as_slice.result.now in
    let same : bytes ≡ c.reading.buffer.items = c.as_slice.ensures.value in
    let known = g.R.Read.remaining c.args.reader.now in
    let before = g.R.Read.remaining c.reading.reader in
    let left = g.R.Read.remaining c.read_piece.new.reader in
    let piece = c.in_ok-read_piece.ensures.bytes in
    let P : List ℕ → Type 0 = λ l. Consumes known before l in
    let joined = Consumes-trans known before left bytes piece.0 (subst P (sym same) c.reading.invariant.consumed) piece.4 in
    let none : piece.0 ≡ [] = nil_from_length piece.0 (piece.2 ∙ c.if-branch-eq0.true) in
    let Q : List ℕ → Type 0 = λ l. Consumes known left l in
    let whole = subst Q (ap (λ l. bytes ++ l) none ∙ append-nil bytes) joined in
    let old = c.reading.buffer.items in
    let no_more : old ++ piece.0 ≡ old = ap (λ l. old ++ l) none ∙ append-nil old in
    let read : bytes ≡ c.read_piece.new.buffer.items = same ∙ sym (piece.1 ∙ no_more) in
    finds_none kind known _ (subst (HasNone kind) read (none_yet kind bytes (has_none kind bytes c.in-More.ensures)))
    (ended_no_head kind known left bytes whole (piece.5 c.if-branch-eq0.true) (has_none kind bytes c.in-More.ensures))

-- whatever follows, there is no head
pub returns-in-Never-clause-found : goal.returns-in-Never-clause-found
returns-in-Never-clause-found g c =
    let kind = c.args.kind in
    let bytes = c.as_slice.result.now in
    let known = g.R.Read.remaining c.args.reader.now in
    let left = g.R.Read.remaining c.reading.reader in
    let P : List ℕ → Type 0 = λ l. Consumes known left l in
    let same : bytes ≡ c.reading.buffer.items = c.as_slice.ensures.value in
    finds_none kind known _ (subst (HasNone kind) (append-nil bytes ∙ same) (c.in-Never.ensures []))
    (no_head_known kind known left bytes (subst P (sym same) c.reading.invariant.consumed) (λ ys _. c.in-Never.ensures ys))
