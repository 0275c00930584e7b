use Rattle.std.proofs.Common.{◌≡◌, ◌+◌, ◌++◌, map, length, get_or, drop, None, sym, ap, ◌∙◌, arith, rules}
use Rattle.std.proofs.lemmas.List.{ext_get_or, length-map, length-take-le, get_or-map}
use Rattle.plans.specs.Plans.{level_byte}
use Rattle.fronts.proofs.back.write_levels.Goals as goal

pub copy_from_slice-requires : goal.copy_from_slice-requires
copy_from_slice-requires c = length-take-le 48 c.args.levels.now (omega arith) ∙ sym c.map.ensures.items.long

pub returns : goal.returns
returns c =
    let picks = c.args.picks.now in
    let bytes = c.map.ensures.items in
    let long : length c.map.result ≡ length (map level_byte picks) = omega (arith, bytes.long, length-map picks level_byte, c.told-picks) in
    let same : c.map.result ≡ map level_byte picks = ext_get_or 0 _ _ long (λ i h. let call = (bytes.at i None 0 (omega (arith, bytes.long))).2 in let told : get_or c.map.result i 0 ≡ level_byte (get_or picks i None) = search rules in told ∙ sym (get_or-map level_byte picks i None 0 (omega (arith, bytes.long, c.told-picks)))) in
    let end : 48 ≡ 0 + length (map level_byte picks) = omega (arith, length-map picks level_byte, c.told-picks) in
    ap (λ xs. xs ++ drop 48 c.args.levels.now) (c.copy_from_slice.ensures.after ∙ same) ∙ ap (λ n. map level_byte picks ++ drop n c.args.levels.now) end
