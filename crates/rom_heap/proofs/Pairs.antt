-- The pairs of blocks whose keys differ are one finite map in any order.
use Rattle.std.proofs.Common.{◌≡◌, ◌≢◌, inl, inr, ℕ, ◌+◌, ◌<◌, ◌≤◌, cond, true, false, List, [], ◌∷◌, sym, ◌∙◌, ap, arith}
use Rattle.std.specs.Prelude.{slice_index, ◌==◌, None, Some}
use Rattle.std.specs.Ordering.{nat_cmp, eq_by_cmp}
use Rattle.std.specs.Cmp.{unsigned_tied, nat_cmp_total}
use Rattle.std.specs.FinMap as finite
use Rattle.std.proofs.lemmas.Bool.{cases_eq, cases_lt}
use Rattle.std.proofs.lemmas.Bool.Decides.{nat_tests}
use Rattle.rom_model.specs.State.{Stamped}
use Rattle.rom_model.specs.Blocks.{block_of}
use Rattle.rom_model.specs.Chains.{times, each_word, each_pair, stamped_at}
use Rattle.rom_model.proofs.Times.{times_here, times_away, times_more}
use Rattle.rom_model.proofs.Contents.{each_in}

apart : (q k : ℕ) → q ≢ k → eq_by_cmp nat_cmp q k ≡ false
apart q k ne = let test : (q == k) ≡ false = grind (arith, nat_tests) in unsigned_tied q k ∙ test

alike : (q k : ℕ) → q ≡ k → eq_by_cmp nat_cmp q k ≡ true
alike q k e = let test : (q == k) ≡ true = grind (arith, nat_tests) in unsigned_tied q k ∙ test

module _ (n : ℕ) (w : List ℕ) where
  abbrev key_of : ℕ → ℕ
  key_of b = slice_index w (block_of n b + 0)

  abbrev pub pairs_of : List ℕ → finite.FinMap nat_cmp Stamped
  pairs_of bs = finite.from_entries (each_pair n w bs)

  get_first : (b : ℕ) (bs : List ℕ) (q : ℕ) → finite.get (pairs_of (b ∷ bs)) q ≡ cond (eq_by_cmp nat_cmp q (key_of b)) (Some (stamped_at n w b)) (finite.get (pairs_of bs) q)
  get_first b bs q = finite.get-insert nat_cmp_total (pairs_of bs) (key_of b) (stamped_at n w b) q

  get_here : (b : ℕ) (bs : List ℕ) (q : ℕ) → q ≡ key_of b → finite.get (pairs_of (b ∷ bs)) q ≡ Some (stamped_at n w b)
  get_here b bs q e = get_first b bs q ∙ ap (λ t. cond t (Some (stamped_at n w b)) (finite.get (pairs_of bs) q)) (alike q (key_of b) e)

  get_behind : (b : ℕ) (bs : List ℕ) (q : ℕ) → q ≢ key_of b → finite.get (pairs_of (b ∷ bs)) q ≡ finite.get (pairs_of bs) q
  get_behind b bs q ne = get_first b bs q ∙ ap (λ t. cond t (Some (stamped_at n w b)) (finite.get (pairs_of bs) q)) (apart q (key_of b) ne)

  -- a block's word is among the words
  has_key : (b : ℕ) (bs : List ℕ) → 0 < times b bs → 0 < times (key_of b) (each_word n w 0 bs)
  has_key b [] some = absurd (omega (arith, some))
  has_key b (c ∷ bs) some = elim (cases_eq c b) [
    | inl same ↦ omega (arith, times_here (key_of b) (each_word n w 0 bs), ap (λ x. times (key_of b) (key_of x ∷ each_word n w 0 bs)) same)
    | inr other ↦ omega (arith, has_key b bs (omega (arith, some, times_away b c bs other)), times_more (key_of b) (key_of c) (each_word n w 0 bs))
  ]

  -- the key of a block has what it has there
  get_block : (b : ℕ) (bs : List ℕ) → ((key : ℕ) → times key (each_word n w 0 bs) ≤ 1) → 0 < times b bs → finite.get (pairs_of bs) (key_of b) ≡ Some (stamped_at n w b)
  get_block b [] once some = absurd (omega (arith, some))
  get_block b (c ∷ bs) once some = elim (cases_eq c b) [
    | inl same ↦ get_here c bs (key_of b) (ap key_of (sym same)) ∙ ap (λ x. Some (stamped_at n w x)) same
    | inr other ↦
        let behind : 0 < times b bs = omega (arith, some, times_away b c bs other) in
        let ne : key_of b ≢ key_of c = λ e. absurd (omega (arith, has_key b bs behind, once (key_of b), times_here (key_of b) (each_word n w 0 bs), ap (λ x. times (key_of b) (x ∷ each_word n w 0 bs)) e)) in
        get_behind c bs (key_of b) ne ∙ get_block b bs (λ key. omega (arith, once key, times_more key (key_of c) (each_word n w 0 bs))) behind
  ]

  get_none : (bs : List ℕ) (q : ℕ) → times q (each_word n w 0 bs) ≡ 0 → finite.get (pairs_of bs) q ≡ None
  get_none [] q none = finite.get-empty nat_cmp q
  get_none (b ∷ bs) q none =
      let ne : q ≢ key_of b = λ e. absurd (omega (arith, none, times_here q (each_word n w 0 bs), ap (λ x. times q (x ∷ each_word n w 0 bs)) e)) in
      get_behind b bs q ne ∙ get_none bs q (omega (arith, none, times_more q (key_of b) (each_word n w 0 bs)))

  pub pairs_permuted : (bs cs : List ℕ) → ((b : ℕ) → times b cs ≡ times b bs) → ((key : ℕ) → times key (each_word n w 0 cs) ≡ times key (each_word n w 0 bs)) → ((key : ℕ) → times key (each_word n w 0 bs) ≤ 1) → pairs_of cs ≡ pairs_of bs
  pairs_permuted bs cs blocks keys once = finite.same_map nat_cmp_total finite.nat_cmp-IsAntisymmetric (pairs_of cs) (pairs_of bs) (λ q. elim (cases_lt 0 (times q (each_word n w 0 bs))) [
    | inl some ↦
        let x = each_in n w 0 q bs some in
        let one = get_block x.0 cs (λ key. omega (arith, keys key, once key)) (omega (arith, blocks x.0, x.1)) in
        let two = get_block x.0 bs once x.1 in
        ap (λ k. finite.get (pairs_of cs) k) (sym x.2) ∙ one ∙ sym two ∙ ap (λ k. finite.get (pairs_of bs) k) x.2
    | inr gone ↦ get_none cs q (omega (arith, gone, keys q)) ∙ sym (get_none bs q (omega (arith, gone)))
  ])
